use Rattle.std.proofs.Common.{◌≡◌, ◌∙◌, Err, None, Option, sym}
use Rattle.serde_json.specs.View.{view}
use Rattle.canon_json.specs.Json.{ReadsAs}
use Rattle.canon_json.specs.declared.error.ScriptError.{ScriptError}
use Rattle.canon_json.specs.declared.error.ScriptError.TheVariants as refused
use Rattle.canon_script.specs.Script.{Play, play_of}
use Rattle.canon_script.specs.declared.script.Script.{Script}
use Rattle.canon_gen.proofs.Common.{common_is_some, common_read}
use Rattle.canon_gen.proofs.made.common.Goals as goal

no_script : (e : ScriptError) (o : Option Play) → e ≡ refused.BadScript → ReadsAs {X = Script} play_of (Err e) o → o ≡ None
no_script refused.BadScript o is h = h
no_script refused.OutOfMemory o is h = absurd (cc)

pub unreachable-requires : goal.unreachable-requires
unreachable-requires c =
    let refusal = c.in-Err-BadScript in
    common_is_some (sym (common_read (view c.in_ok-tree.tree) c.in_ok-tree.ensures) ∙ no_script refusal.field-0 _ refusal.field-0-is refusal.ensures.script)

pub returns-in-Ok-clause-script : goal.returns-in-Ok-clause-script
returns-in-Ok-clause-script c = sym (common_read (view c.in_ok-tree.tree) c.in_ok-tree.ensures) ∙ c.in-Ok.ensures.script
