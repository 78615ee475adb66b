use Rattle.std.proofs.Common.{◌≡◌, IsTrue, sym, ◌∙◌, Bool, true, false, ⊎_elim, ap}
use Rattle.std.proofs.lemmas.Bool.{cases_Bool}
use Rattle.std.specs.Cmp.Lexicographic.{other_text, same_text}
use Rattle.canon_replay_guest.proofs.recorded.same_words.Goals as goal

pub returns : goal.returns
returns c = (
  λ t. same_text c.args.xs.now c.args.ys.now (sym t ∙ c.eq.ensures),
  λ e. ⊎_elim (λ yes. yes) (λ no. absurd (other_text c.args.xs.now c.args.ys.now (sym no ∙ c.eq.ensures) e)) (cases_Bool c.eq.result),
)
