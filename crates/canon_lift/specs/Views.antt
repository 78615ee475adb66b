-- Texts and lists that stay in memory, seen in a view.
use Rattle.std.specs.Prelude.{◌≡◌, ◌+◌, ◌≤◌, ◌<◌, ◌^◌, ◌↔◌, IsTrue, List, length, ⊤, ℕ}
use Rattle.std.specs.Str.{IsAscii}
use Rattle.canon_context.specs.Component.{HasOptions, encoding_at}
use Rattle.canon_context.specs.declared.fault.At.{At as Place}
use Rattle.canon_context.specs.declared.fault.Fault.{Fault}
use Rattle.canon_context.specs.declared.fault.Fault.TheVariants as fault
use Rattle.canon_context.specs.declared.host.MemoryView.{MemoryView}
use Rattle.canon_lowering.specs.Storing.{narrow}
use Rattle.canon_model.specs.Memory.{bytes_at}
use Rattle.canon_model.specs.Text.{Encoding, compact, in_utf16, in_utf8, text_bytes, text_form, utf16, utf8}
use Rattle.canon_text.specs.Decoding.{Decodes, SpellsNothing, cow_text, is_borrowed}
use Rattle.canon_text.specs.declared.cow.CowStr.{CowStr}
use Rattle.canon_types.specs.Instance.{Instance}
use Rattle.canon_types.specs.Table.{Knows, shape_of}
use Rattle.canon_types.specs.declared.types.InterfaceType.{InterfaceType}
use Rattle.canon_reading.specs.Readings.{IsGoodList}
use Rattle.canon_lift.specs.declared.wasm_list.WasmList.{WasmList}
use Rattle.canon_lift.specs.declared.wasm_str.WasmStr.{WasmStr}

-- ---- texts

-- the text is of the view's store, and its range lies inside the view's memory
pub record TextFits (view : MemoryView) (v : WasmStr) : Type 0 where
  pub id : v.store ≡ view.id
  pub options : HasOptions view.component.now v.options
  pub inside : v.pointer + text_bytes (encoding_at view.component.now v.options) v.count ≤ length view.bytes.now

-- the bytes that spell it
abbrev pub text_in : MemoryView → WasmStr → List ℕ
text_in view v = bytes_at (narrow view.bytes.now) v.pointer (text_bytes (encoding_at view.component.now v.options) v.count)

-- these bytes are UTF-8 already: the encoding is UTF-8, or they are a compact text without a tag whose bytes are below 128
abbrev pub IsBorrowable : Encoding → ℕ → List ℕ → Type 0
IsBorrowable utf8 n bytes = ⊤
IsBorrowable utf16 n bytes = ⊥
IsBorrowable compact n bytes = (n < 2 ^ 31) × IsAscii bytes

pub record IsDecodedText (enc : Encoding) (n : ℕ) (bytes : List ℕ) (t : CowStr) : Type 0 where
  pub decodes : Decodes (text_form enc n) bytes (cow_text t)
  pub borrowed : IsTrue (is_borrowed t) ↔ IsBorrowable enc n bytes

-- Why there is no text. Memory is taken only for what can't be borrowed.
abbrev pub TextLost : Encoding → ℕ → List ℕ → Place → Fault → Type 0
TextLost enc n bytes at (fault.InvalidUtf8 x) = (x ≡ at) × (text_form enc n ≡ in_utf8) × SpellsNothing in_utf8 bytes
TextLost enc n bytes at (fault.InvalidUtf16 x) = (x ≡ at) × (text_form enc n ≡ in_utf16) × SpellsNothing in_utf16 bytes
TextLost enc n bytes at fault.OutOfMemory = ¬ IsBorrowable enc n bytes
TextLost enc n bytes at _ = ⊥

abbrev pub WideLost : List ℕ → Place → Fault → Type 0
WideLost bytes at (fault.InvalidUtf16 x) = (x ≡ at) × SpellsNothing in_utf16 bytes
WideLost bytes at fault.OutOfMemory = ⊤
WideLost bytes at _ = ⊥

-- ---- lists

-- The list is of the view's store, its items are of the Rust type, and they lie aligned inside the view's memory.
pub record ListFits {A : Type 0} (Fit : Instance → InterfaceType → Type 0) (view : MemoryView) (v : WasmList A) : Type 0 where
  pub id : v.store ≡ view.id
  pub options : HasOptions view.component.now v.options
  pub known : Knows view.component.now.types.types v.element
  pub fits : Fit view.component.now.types v.element
  pub good : IsGoodList (narrow view.bytes.now) (shape_of view.component.now.types.types v.element) v.pointer v.count
