use Rattle.std.proofs.Common.{Ok, arith, length, refl, subst, sym, ℕ, ◌+◌, ◌<◌, ◌^◌, ◌∙◌, ◌≡◌, ◌≤◌}
use Rattle.canon_lowering.specs.Storing.{narrow}
use Rattle.canon_model.specs.Layout.{flags_size}
use Rattle.canon_model.specs.Memory.{num}
use Rattle.canon_types.specs.Table.{shape_of}
use Rattle.canon_types.specs.declared.types.InterfaceType.TheVariants as ty
use Rattle.canon_value_parts.specs.Flags.{flag_names}
use Rattle.canon_value_parts.proofs.FlagNames.{flags_are}
use Rattle.canon_value_parts.proofs.FlagSteps.{flags_bytes}
use Rattle.canon_image_parts.proofs.CaseReading.{flags_many}
use Rattle.canon_image_parts.proofs.Fetching.{flags_bad, flags_cut, flags_good, left_short}
use Rattle.canon_image_parts.proofs.read.read_flags.Goals.{After-from-size}
use Rattle.canon_image_parts.proofs.read.read_flags.Goals as goal
use Rattle.canon_image_parts.specs.Read.{ReadsTo}

many : (c : After-from-size) → c.from-size.result ≡ flags_size (length (flag_names c.args.types.now c.args.i))
many c = c.from-size.ensures ∙ flags_bytes c.args.types.now c.args.types.now c.args.i c.flags-flags.result.now refl c.flags-flags.ensures.entry c.flags-flags.ensures.abi

pub returns-then-bytes-at : goal.returns-then-bytes-at
returns-then-bytes-at c =
    let names = flag_names c.args.types.now c.args.i in
    let m = many (goal.at.returns-then-bytes-at c).After-from-size in
    record {
      reads = flags_cut (shape_of c.args.types.now (ty.Flags c.args.i)) names (flags_are c.args.types.now c.args.i c.flags-flags.result.now c.flags-flags.ensures.entry) c.args.bytes.now c.args.at.now c.args.at.now
          (left_short c.args.bytes.now c.args.at.now (flags_size (length names)) (omega (arith, c.if-bytes-at.true, m)) c.requires.inside);
    }

pub flags_of-requires-clause-room : goal.flags_of-requires-clause-room
flags_of-requires-clause-room c = omega (arith, c.if-bytes-at.false, c.requires.inside, many (goal.at.flags_of-requires-clause-room c).After-from-size)

pub returns-then-has_spare : goal.returns-then-has_spare
returns-then-has_spare c =
    let names = flag_names c.args.types.now c.args.i in
    let m = many (goal.at.returns-then-has_spare c).After-from-size in
    let count : c.len.result ≡ length names = flags_many c.args.types.now c.args.i c.flags-flags.result.now c.len.result c.flags-flags.ensures.entry c.len.ensures.len in
    let high = subst (λ (n : ℕ). 2 ^ n ≤ num (narrow c.args.bytes.now) c.args.at.now (flags_size (length names))) count
    (subst (λ (n : ℕ). 2 ^ c.len.result ≤ num (narrow c.args.bytes.now) c.args.at.now n) (sym c.from-size.ensures ∙ m) (c.if-has_spare.ensures.some refl)) in
    record {
      reads = flags_bad (shape_of c.args.types.now (ty.Flags c.args.i)) names (flags_are c.args.types.now c.args.i c.flags-flags.result.now c.flags-flags.ensures.entry) c.args.bytes.now c.args.at.now c.args.at.now
          (omega (arith, c.if-bytes-at.false, c.requires.inside, m)) (λ i. omega (arith, c.type_inv.bytes i)) high;
    }

pub returns-in-Ok : goal.returns-in-Ok
returns-in-Ok c =
    let bs = c.args.bytes.now in
    let at = c.args.at.now in
    let names = flag_names c.args.types.now c.args.i in
    let s = shape_of c.args.types.now (ty.Flags c.args.i) in
    let m = many (goal.at.returns-in-Ok c).After-from-size in
    let count : c.len.result ≡ length names = flags_many c.args.types.now c.args.i c.flags-flags.result.now c.len.result c.flags-flags.ensures.entry c.len.ensures.len in
    let low = subst (λ (n : ℕ). num (narrow bs) at (flags_size (length names)) < 2 ^ n) count
    (subst (λ (n : ℕ). num (narrow bs) at n < 2 ^ c.len.result) (sym c.from-size.ensures ∙ m) (c.if-has_spare.ensures.none refl)) in
    record {
      reads = subst (λ (n : ℕ). ReadsTo bs at (at + n) s (Ok c.in-Ok.value)) (sym m)
          (flags_good s names (flags_are c.args.types.now c.args.i c.flags-flags.result.now c.flags-flags.ensures.entry) bs at c.in-Ok.value (omega (
            arith,
            c.if-bytes-at.false,
            c.requires.inside,
            m,
          )) (λ i. omega (arith, c.type_inv.bytes i)) low
          c.in-Ok.ensures.ok.0);
    }
