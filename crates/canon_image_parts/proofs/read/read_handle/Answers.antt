use Rattle.std.proofs.Common.{ap, ◌∙◌}
use Rattle.canon_resources.specs.declared.any.ResourceAnyHandle.TheVariants.{Synthetic}
use Rattle.canon_resources.specs.Held.{any}
use Rattle.canon_image_parts.proofs.Fetching.{handle_cut, handle_read}
use Rattle.canon_image_parts.proofs.read.read_handle.Goals as goal

pub returns-in-Ok : goal.returns-in-Ok
returns-in-Ok c = record {
  reads = λ h. handle_read c.args.bytes.now c.args.at.now c.read_number.new.at h c.in-Ok.number c.new_borrow-resource.result
      (c.new_borrow-resource.ensures ∙ ap (λ ty. any (Synthetic c.in-Ok.number) ty) c.host_dynamic.ensures) c.in-Ok.ensures.reads;
}

pub returns-in-Err : goal.returns-in-Err
returns-in-Err c = record { reads = λ h. handle_cut c.args.bytes.now c.args.at.now c.read_number.new.at h c.in-Err.error c.in-Err.ensures.reads }
