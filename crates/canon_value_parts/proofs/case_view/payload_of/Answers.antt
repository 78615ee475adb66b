use Rattle.std.proofs.Common.{Some, refl, subst, sym}
use Rattle.std.specs.Prelude.{Box, Option}
use Rattle.std.specs.declared.alloc.Global.{Global}
use Rattle.canon_types.specs.declared.types.InterfaceType.{InterfaceType}
use Rattle.canon_value_parts.specs.CaseView.{IsPayloadViewed}
use Rattle.canon_value_parts.specs.declared.members.Members.TheVariants as members
use Rattle.canon_val.specs.declared.val.Val.{Val}
use Rattle.canon_value_parts.proofs.case_view.payload_of.Goals as goal

pub returns-in-Some-ty-2-clause-ok : goal.returns-in-Some-ty-2-clause-ok
returns-in-Some-ty-2-clause-ok c =
    let there : IsPayloadViewed (Some c.in-Some-ty-2.ty) (Some c.in-Some.payload) (members.Single c.in-Some-ty-2.ty c.deref.result) = (c.deref.result, refl, c.deref.ensures) in
    subst (λ (x : Option InterfaceType). IsPayloadViewed x c.args.payload.now (members.Single c.in-Some-ty-2.ty c.deref.result)) (sym c.in-Some-ty-2.is)
    (subst (λ (x : Option (Box Val Global)). IsPayloadViewed (Some c.in-Some-ty-2.ty) x (members.Single c.in-Some-ty-2.ty c.deref.result)) (sym c.in-Some.is) there)
