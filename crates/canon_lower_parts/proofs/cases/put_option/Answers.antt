use Rattle.std.proofs.Common.{subst, sym}
use Rattle.canon_context.specs.Core.{component_types}
use Rattle.canon_types.specs.Depth.{variant_cases}
use Rattle.canon_types.specs.Table.{shape_of}
use Rattle.canon_types.specs.declared.types.InterfaceType.{InterfaceType}
use Rattle.canon_lower_parts.proofs.Types.{option_found}
use Rattle.canon_lower_parts.specs.CasePuts.{IsCasePut}
use Rattle.canon_lower_parts.proofs.cases.put_option.Goals as goal

pub returns-clause-put : goal.returns-clause-put
returns-clause-put g c =
    let core = c.args.cx.now.core.now in
    let o = c.option-option.result.now in
    let at = option_found g.T.ComponentType.fits core.component.types c.types.result.now c.args.ty c.in-Option.i o.ty o.info c.types.ensures c.in-Option.is c.requires.fits c.option-option.ensures.entry c.option-option.ensures.info in
    record {
      shape = at.shape;
      known = at.known;
      fits = at.fits;
      put = subst (λ (x : InterfaceType). IsCasePut core c.put_case-inner.new.cx.core.now (variant_cases (shape_of (component_types core) x)) c.args.offset c.args.tag c.put_case-inner.result)
          (sym c.in-Option.is) c.put_case-inner.ensures.put;
    }
