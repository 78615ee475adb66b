-- The entries of lines.
use Rattle.std.proofs.Common.{List, Option, Some, [], Vec, ap, refl, ◌++◌, ◌∙◌, ◌∷◌, ◌≡◌, ℕ}
use Rattle.std.specs.declared.alloc.Global.{Global}
use Rattle.canon_val.specs.declared.val.Val.{Val}
use Rattle.canon_host.specs.HostSide.{LoggedEntry}
use Rattle.canon_host.specs.Imports.{logged}
use Rattle.canon_script.specs.Imports.{HostAnswer, answers_view}
use Rattle.canon_imports.specs.Imports.{answer_next, entries_of, line_entry}
use Rattle.canon_imports.specs.declared.imports.Line.{Line}

entries_more : (lines : List Line) (l : Line) → entries_of (lines ++ l ∷ []) ≡ entries_of lines ++ line_entry l ∷ []
entries_more [] l = refl
entries_more (k ∷ lines) l = ap (λ es. line_entry k ∷ es) (entries_more lines l)

abbrev pub log_of : List Line → Option (List LoggedEntry)
log_of lines = Some (entries_of lines)

-- the log of the same lines, and of one more
pub log_same : (lines lines2 : List Line) → lines2 ≡ lines → log_of lines2 ≡ log_of lines
log_same lines lines2 same = ap log_of same

pub log_more : (lines lines2 : List Line) (l : Line) → lines2 ≡ lines ++ l ∷ [] → log_of lines2 ≡ logged (log_of lines) (line_entry l)
log_more lines lines2 l more = ap log_of more ∙ ap Some (entries_more lines l)

-- the next answer, by the entries
pub import_next_is : (answers : List (Vec (Option (Vec Val Global)) Global)) (lines lines2 : List Line) (n : ℕ) (a : HostAnswer) → a ≡ answer_next (answers_view answers) (entries_of lines2) n
    → lines2 ≡ lines → a ≡ answer_next (answers_view answers) (entries_of lines) n
import_next_is answers lines lines2 n a is same = is ∙ ap (λ (ls : List Line). answer_next (answers_view answers) (entries_of ls) n) same
