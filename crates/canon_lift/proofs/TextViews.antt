-- A text's bytes, as a view has them.
use Rattle.std.proofs.Common.{◌≡◌, ◌+◌, ◌-◌, ◌∙◌, IfErr, IfOk, List, Result, Some, ap, drop, slice_get, subst₂, sym, take, ℕ}
use Rattle.canon_context.specs.Component.{encoding_at, encoding_in}
use Rattle.canon_context.specs.declared.fault.Fault.{Fault}
use Rattle.canon_context.specs.declared.host.MemoryView.{MemoryView}
use Rattle.canon_abi.specs.Options.{encoding_of}
use Rattle.canon_lowering.specs.Storing.{narrow}
use Rattle.canon_model.specs.Memory.{bytes_at}
use Rattle.canon_model.specs.Text.{Encoding, text_bytes}
use Rattle.canon_string.proofs.TextLoading.{read_there}
use Rattle.canon_text.specs.declared.cow.CowStr.{CowStr}
use Rattle.canon_abi.specs.declared.options.CanonicalOptions.{CanonicalOptions}
use Rattle.canon_lift.specs.Views.{IsDecodedText, TextLost, text_in}
use Rattle.canon_lift.specs.declared.wasm_str.WasmStr.{WasmStr}

module _ (view : MemoryView) (v : WasmStr) (o : CanonicalOptions) (is : slice_get view.component.now.options.items v.options ≡ Some o) (memory : List ℕ) (same : memory ≡ view.bytes.now) (n : ℕ)
    (count : n ≡ text_bytes (encoding_of o.string_encoding) v.count) where
  encoding_here : encoding_of o.string_encoding ≡ encoding_at view.component.now v.options
  encoding_here = sym (ap encoding_in is)

  bytes_here : take (v.pointer + n - v.pointer) (drop v.pointer memory) ≡ text_in view v
  bytes_here = ap (λ ms. take (v.pointer + n - v.pointer) (drop v.pointer ms)) same ∙ read_there view.bytes.now v.pointer n
      ∙ ap (bytes_at (narrow view.bytes.now) v.pointer) (count ∙ ap (λ e. text_bytes e v.count) encoding_here)

  pub text_here : (r : Result CowStr Fault) → IfOk r (IsDecodedText (encoding_of o.string_encoding) v.count (take (v.pointer + n - v.pointer) (drop v.pointer memory)))
      → IfOk r (IsDecodedText (encoding_at view.component.now v.options) v.count (text_in view v))
  text_here r h = subst₂ (λ (e : Encoding) (xs : List ℕ). IfOk r (IsDecodedText e v.count xs)) encoding_here bytes_here h

  pub lost_here : (r : Result CowStr Fault) → IfErr r (TextLost (encoding_of o.string_encoding) v.count (take (v.pointer + n - v.pointer) (drop v.pointer memory)) v.at)
      → IfErr r (TextLost (encoding_at view.component.now v.options) v.count (text_in view v) v.at)
  lost_here r h = subst₂ (λ (e : Encoding) (xs : List ℕ). IfErr r (TextLost e v.count xs v.at)) encoding_here bytes_here h
