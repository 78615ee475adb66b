-- The store of a component, as it begins.
use Rattle.std.proofs.Common.{Bool, List, [], ap, append-nil, drop, length, subst, sym, ℕ, ◌++◌, ◌∙◌, ◌≡◌, ◌≤◌}
use Rattle.std.proofs.Math.ListN.{drop_of_length-le}
use Rattle.std.specs.Prelude.{unwrap_or}
use Rattle.serde_json.specs.Data.{Data}
use Rattle.canon_abi.specs.declared.options.CanonicalOptions.{CanonicalOptions}
use Rattle.canon_abi.specs.declared.options.StringEncoding.{StringEncoding}
use Rattle.canon_types.specs.Table.{TypeTable}
use Rattle.canon_context.specs.Component.{IsComponent}
use Rattle.canon_context.specs.declared.component.Component.{Component}
use Rattle.canon_context.specs.declared.component.Export.{Export}
use Rattle.canon_script.specs.Script.{Play, script_of}
use Rattle.canon_serve.specs.Begins.{HasNoComponent, HasPlay, IsComponentOf, IsTree, served_exports_from, served_options_from}

-- ---- all of a component's functions

module _ (i : ℕ) (posts : List Bool) (past : length posts ≤ i) where
  none_after : drop i posts ≡ []
  none_after = drop_of_length-le posts past

  pub every_option : (t : TypeTable) (encoding : StringEncoding) (os all : List CanonicalOptions) → os ++ served_options_from t encoding i (drop i posts) ≡ all → os ≡ all
  every_option t encoding os all h = sym (append-nil os) ∙ (ap (λ (ps : List Bool). os ++ served_options_from t encoding i ps) (sym none_after) ∙ h)

  pub every_export : (es : List Export) → es ++ served_exports_from i (drop i posts) ≡ served_exports_from 0 posts → es ≡ served_exports_from 0 posts
  every_export es h = sym (append-nil es) ∙ (ap (λ (ps : List Bool). es ++ served_exports_from i ps) (sym none_after) ∙ h)

-- ---- one script

same_tree : (json : List ℕ) (t u : Data) → IsTree json t → IsTree json u → t ≡ u
same_tree json t u f g = ap (λ o. unwrap_or o t) (sym f.1 ∙ g.1)

same_play : (json : List ℕ) (p q : Play) → HasPlay json p → HasPlay json q → p ≡ q
same_play json p q f g = ap (λ o. unwrap_or o p) (sym f.2 ∙ (ap script_of (same_tree json f.0 g.0 f.1 g.1) ∙ g.2))

-- the bytes are no script
pub no_script : (json : List ℕ) → ((play : Play) → HasPlay json play → ⊥) → HasNoComponent json
no_script json none = λ play has. absurd (none play has)

-- they are one whose component isn't sound
pub unsound_script : (json : List ℕ) (play : Play) (c : Component) → HasPlay json play → IsComponentOf play c → (IsComponent c → ⊥) → HasNoComponent json
unsound_script json play c has is not = λ other also. (c, subst (λ p. IsComponentOf p c) (same_play json play other has also) is, not)
