-- The text that the scripts of all numbers have in common is one of a script: computed.
use Rattle.std.proofs.Common.{◌≡◌, ◌∙◌, ℕ, Option, None, Some, ap, length, option_and_then, option_map, refl, sym}
use Rattle.std.proofs.lemmas.Option.{same_Some}
use Rattle.canon_model.specs.Layout.{cases_align, size}
use Rattle.canon_types.specs.Table.{all_shapes, shapes_after}
use Rattle.serde_json.proofs.OnLiterals.{serde_json_on_literals}
use Rattle.serde_json.specs.Data.{Data}
use Rattle.serde_json.specs.Read.{read}
use Rattle.canon_script.specs.Script.{Play, script_of}
use Rattle.canon_gen.specs.Made.{common, common_text}

-- its memory, and how many functions it has
told : Play → ℕ × ℕ
told p = (p.memory, length p.posts)

common_told : option_map told common ≡ Some (16777216, 1)
unfolding common told serde_json_on_literals cases_align size all_shapes shapes_after
common_told = refl

is_some : (o : Option Play) (t : ℕ × ℕ) → option_map told o ≡ Some t → o ≡ None → ⊥
is_some None t h e = absurd (cc)
is_some (Some p) t h e = absurd (cc)

tells : (o : Option Play) (p : Play) (t : ℕ × ℕ) → option_map told o ≡ Some t → o ≡ Some p → told p ≡ t
tells None p t h e = absurd (cc)
tells (Some q) p t h e = ap told (sym (same_Some q p e)) ∙ same_Some (told q) t h

read_from : (o : Option Data) → option_and_then script_of o ≡ common → o ≡ None → ⊥
read_from o e lacks = is_some common (16777216, 1) common_told (sym e ∙ ap (option_and_then script_of) lacks)

-- the text is read as JSON
pub common_is_json : read common_text ≡ None → ⊥
unfolding common
common_is_json lacks = read_from (read common_text) refl lacks

script_from : (o : Option Data) (tree : Data) → option_and_then script_of o ≡ common → o ≡ Some tree → script_of tree ≡ common
script_from o tree e is = sym (ap (option_and_then script_of) is) ∙ e

-- and the JSON as a script
pub common_read : (tree : Data) → read common_text ≡ Some tree → script_of tree ≡ common
unfolding common
common_read tree is = script_from (read common_text) tree refl is

pub common_is_some : common ≡ None → ⊥
common_is_some lacks = is_some common (16777216, 1) common_told lacks

module _ (p : Play) (e : common ≡ Some p) where
  pub common_memory : p.memory ≡ 16777216
  unfolding told
  common_memory = ap (λ (t : ℕ × ℕ). t.0) (tells common p (16777216, 1) common_told e)

  pub common_posts : length p.posts ≡ 1
  unfolding told
  common_posts = ap (λ (t : ℕ × ℕ). t.1) (tells common p (16777216, 1) common_told e)
