use Rattle.std.proofs.Common.{◌∙◌}
use Rattle.canon_host.proofs.Counts.{first_far, first_near, row_told}
use Rattle.canon_host.proofs.asked.first_words.Goals as goal

pub returns-clause-near : goal.returns-clause-near
returns-clause-near c = λ few. c.unwrap_or.ensures ∙ first_near c.results_words.result _ c.results_words.ensures few

pub returns-clause-far : goal.returns-clause-far
returns-clause-far c = λ many. c.unwrap_or.ensures ∙ first_far c.results_words.result _ c.results_words.ensures many

pub returns-clause-row : goal.returns-clause-row
returns-clause-row c = c.unwrap_or.ensures ∙ row_told c.results_words.result _ c.results_words.ensures
