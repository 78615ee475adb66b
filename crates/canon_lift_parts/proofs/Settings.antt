-- The setting and the shapes stay where nothing of a core but the ledger changes.
use Rattle.std.proofs.Common.{◌≡◌, ◌+◌, ◌*◌, ◌%◌, ap, ap₂, false, ◌∙◌, ℕ}
use Rattle.canon_abi.specs.Abi.{HasLayout}
use Rattle.canon_abi.specs.declared.abi.CanonicalAbiInfo.{CanonicalAbiInfo}
use Rattle.canon_model.proofs.Layouts.{elements_fit}
use Rattle.canon_model.specs.Layout.{align, size}
use Rattle.canon_context.specs.Core.{Parts, component_types}
use Rattle.canon_model.specs.Shape.{Shape}
use Rattle.canon_types.specs.Table.{TypeTable, shape_of}
use Rattle.canon_types.specs.declared.types.InterfaceType.{InterfaceType}
use Rattle.canon_reading.specs.Reading.{setting_in}

module _ {D G : Type 0} (core now : Parts D G) (same : now ≡ record core { ledger = now.ledger }) where
  pub same_setting : (o o2 : ℕ) → o2 ≡ o → setting_in now o2 ≡ setting_in core o
  same_setting o o2 e = ap₂ (λ (c : Parts D G) n. setting_in c n) same e

  pub lift_same_types : component_types now ≡ component_types core
  lift_same_types = ap (λ (c : Parts D G). component_types c) same

  pub same_shape : (type : InterfaceType) → shape_of (component_types now) type ≡ shape_of (component_types core) type
  same_shape type = ap (λ (t : TypeTable). shape_of t type) lift_same_types

-- what a look-up gave of a type's size and alignment
module _ (t t2 : TypeTable) (type : InterfaceType) (abi : CanonicalAbiInfo) (same : t2 ≡ t) (layout : HasLayout abi (shape_of t2 type)) where
  pub looked_up_size : (n : ℕ) → n ≡ abi.size32 → n ≡ size false (shape_of t type)
  looked_up_size n is = is ∙ (layout.size false) ∙ ap (λ (x : TypeTable). size false (shape_of x type)) same

  pub looked_up_align : (n : ℕ) → n ≡ abi.align32 → n ≡ align false (shape_of t type)
  looked_up_align n is = is ∙ (layout.align false) ∙ ap (λ (x : TypeTable). align false (shape_of x type)) same

pub element_aligned : (s : Shape) (a i : ℕ) → a % align false s ≡ 0 → (a + i * size false s) % align false s ≡ 0
unfolding align
element_aligned s a i e = (elements_fit false 1 s).aligned a i e
