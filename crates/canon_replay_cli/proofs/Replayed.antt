-- What the word `replay` is asked, by its parts, and what a text tells of it.
use Rattle.std.proofs.Common.{List, Option, Some, codes, refl, subst, true, ℕ, ◌≡◌}
use Rattle.serde_json.specs.Data.{Data}
use Rattle.serde_json.specs.Find.{as_object, get}
use Rattle.canon_json.specs.Hex.{bytes_of}
use Rattle.canon_json.specs.Json.{has_len}
use Rattle.canon_script.specs.Script.{Play}
use Rattle.canon_replay_cli.specs.Lines.{IsToldOf}
use Rattle.canon_replay_cli.specs.Replays.{IsReplayText, replay_task_of, replay_task_with}
use Rattle.canon_replay_cli.specs.Scripts.{IsScriptedBy, plain_script_of}
use Rattle.canon_replay_cli.specs.declared.scripted.Scripted.{Scripted}

pub task_is : (d s h : Data) (play : Play) (bytes : List ℕ) → has_len 2 (as_object d) ≡ true → get (codes "script") d ≡ Some s → get (codes "hex") d ≡ Some h
    → plain_script_of s ≡ Some play → bytes_of h ≡ Some bytes → replay_task_of d ≡ Some (replay_task_with play bytes)
task_is d s h play bytes two script hex is spelled = rw (two, script, hex, is, spelled) refl

pub told_of_task : (play : Play) (s : Scripted) (bytes seen text : List ℕ) → IsScriptedBy play s → seen ≡ bytes → IsToldOf s.component s.fuel s.turns seen text
    → IsReplayText (replay_task_with play bytes) text
told_of_task play s bytes seen text by is told = record {
  component = s.component;
  is_of = by.component;
  recordable = by.recordable;
  all_calls = by.calls;
  told = subst (λ n. IsToldOf s.component play.fuel n bytes text) by.turns
      (subst (λ n. IsToldOf s.component n s.turns bytes text) by.fuel (subst (λ xs. IsToldOf s.component s.fuel s.turns xs text) is told));
}
