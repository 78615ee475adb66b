-- What the program reads, and the line that it writes.
use Rattle.std.specs.Prelude.{ℕ, List, Option}
use Rattle.canon_cli.specs.Program.{ReadsTask}
use Rattle.canon_image_cli.specs.Lines.{IsImageLine}
use Rattle.canon_image_cli.specs.Task.{Question, image_task_of}

-- what was read asks this question, and this line shows it
pub record IsAnswered (left left' : Option (List ℕ)) (line : List ℕ) : Type 0 where
  pub question : Question
  pub reads : ReadsTask image_task_of left left' question
  pub told : IsImageLine question line
