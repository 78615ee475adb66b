-- What a script declares stands.
use Rattle.std.proofs.Common.{◌≡◌, ◌≤◌, Some, [], arith, length, subst}
use Rattle.std.proofs.lemmas.Option.{option_and_then_some}
use Rattle.std.specs.List.{All}
use Rattle.serde_json.specs.Data.{Items}
use Rattle.canon_json.proofs.Found.{by_map, onward_keeps}
use Rattle.canon_json.specs.Json.{onward}
use Rattle.canon_types.specs.Refusal.{empty_type_table}
use Rattle.canon_layout.specs.Asked.{add_resource, funcs_over, types_over}
use Rattle.canon_layout.proofs.Known.{funcs_stand, resources_begun, types_begun}
use Rattle.canon_script.specs.Imports.{HaveAnswers, ImportStands, add_import, imported, imports_over}
use Rattle.canon_script.specs.Types.{Declared, declared, declared_of, declared_over, declared_with}
use Rattle.canon_script.proofs.Imported.{AreImports, all_answered, all_stand, import_keeps}

-- its functions are few, and its imports stand over its table with their answers
pub record AreDeclared (d : Declared) : Type 0 where
  pub told : length d.posts ≤ length d.table.funcs
  pub few : length d.posts ≤ 1048576
  pub imports : All (ImportStands d.table) d.imports
  pub answers : HaveAnswers d.table d.imports d.answers

pub declared_sound : (resources types funcs imports : Items) (d : Declared) → declared_of resources types funcs imports ≡ Some d → AreDeclared d
declared_sound resources types funcs imports d e =
    option_and_then_some _ (onward add_resource empty_type_table resources) d e (λ t s1 e1.
    option_and_then_some (declared_with funcs imports) (types_over t types) d e1 (λ l s2 e2.
    option_and_then_some (declared_over imports l.types) (funcs_over funcs l) d e2 (λ fs s3 e3.
    by_map (declared fs.posts) (imports_over l.types fs.table imports) d e3 (λ m s4 is.
    let known = funcs_stand funcs l fs (types_begun t types l (resources_begun resources t s1) s2) s3 in
    let begun : AreImports (length fs.posts) (imported fs.table [] []) = record { funcs = omega (arith, known.told); taken = tt } in
    let read = onward_keeps (AreImports (length fs.posts)) (add_import l.types) (import_keeps (length fs.posts) l.types) (imported fs.table [] []) m imports begun s4 in
    subst AreDeclared is (record {
      told = read.funcs;
      few = omega (arith, known.few, known.told);
      imports = all_stand m.table m.imports m.answers read.taken;
      answers = all_answered m.table m.imports m.answers read.taken;
    })))))
