use Rattle.std.proofs.Common.{arith, length, refl, ◌∙◌, ◌≤◌}
use Rattle.canon_player.proofs.Components.{all_exports, all_options, scripted_sound}
use Rattle.canon_player.proofs.component.component_of.Goals as goal

pub returns-clause-scripted : goal.returns-clause-scripted
returns-clause-scripted c =
    let past : length c.args.posts.now ≤ c.loop-i.i = omega (arith, c.loop-i-test.false, c.loop-i.auto.i-end) in
    record {
      types = λ i. record { types = c.new.ensures.types i; store = (c.new.ensures.store ∙ c.from_u64.ensures) i };
      options = all_options c.loop-i.i c.args.posts.now past c.args.types c.args.encoding _ _ c.loop-i.invariant.options;
      exports = all_exports c.loop-i.i c.args.posts.now past _ c.loop-i.invariant.exports;
      imports = refl;
    }

pub returns-clause-sound : goal.returns-clause-sound
returns-clause-sound c = scripted_sound c.args.types c.args.encoding c.args.posts.now c.args.imports.items _ (returns-clause-scripted c) c.requires.told c.requires.stand
