use Rattle.std.proofs.Common.{◌≡◌, List, ℕ, Option, None, Some, ap, option_map, refl}
use Rattle.canon_layout.specs.Asked.{Listed}
use Rattle.canon_layout.specs.Lines.{layout_text}
use Rattle.canon_cli.specs.Program.{listing}
use Rattle.canon_cli.proofs.program.perform_layout.Goals as goal

-- a text of what is listed is the text of something
text_of : (o : Option Listed) (text : List ℕ) → option_map layout_text o ≡ Some text → (l : Listed) × (o ≡ Some l) × (text ≡ layout_text l)
text_of None text e = absurd (cc)
text_of (Some l) text e = (l, refl, cc)

pub returns-in-Ok-clause-done : goal.returns-in-Ok-clause-done
returns-in-Ok-clause-done c = let d = text_of _ _ c.in-Ok.ensures in (listing d.0, ap (option_map (λ x. listing x)) d.1, (refl, d.2))
