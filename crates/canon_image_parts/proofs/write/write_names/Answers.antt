use Rattle.canon_image_parts.proofs.write.write_names.Goals as goal

pub returns : goal.returns
returns c = record { writes = λ xs. rw c.in-Flags.is (c.write_flags.ensures.writes xs) }
