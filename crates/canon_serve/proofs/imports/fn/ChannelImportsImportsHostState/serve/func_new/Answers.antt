use Rattle.std.proofs.Common.{ap, refl, subst, ◌∙◌}
use Rattle.canon_types.specs.Instance.{Instance}
use Rattle.canon_host.specs.Forms.{outcome}
use Rattle.canon_serve.specs.Asks.{AsksHost}
use Rattle.canon_serve.proofs.imports.fn.ChannelImportsImportsHostState.serve.func_new.Goals as goal

pub returns : goal.returns
returns g c =
    let types = c.types-types.ensures ∙ ap (λ (i : Instance). i.types) c.types.ensures in
    record {
      state = refl;
      reference = c.serve_ask.ensures.reference;
      steps = c.serve_ask.ensures.steps;
      asks = subst (λ t. AsksHost g.H.Channel.log c.captures.n t c.args.ty.now c.args.view.now.state.now c.args.params.now (outcome c.serve_ask.result c.serve_ask.new.slots) c.serve_ask.new.state) types
          c.serve_ask.ensures.asks;
      drops = c.serve_ask.ensures.drops;
    }
