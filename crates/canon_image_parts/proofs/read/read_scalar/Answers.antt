use Rattle.std.proofs.Common.{Ok, arith, false, length, refl, subst, sym, ℕ, ◌+◌, ◌∙◌, ◌≡◌, ◌≤◌}
use Rattle.canon_model.specs.Layout.{scalar_size}
use Rattle.canon_model.specs.Text.{utf8}
use Rattle.canon_types.specs.Table.{shape_of}
use Rattle.canon_image_parts.specs.Read.{ReadsTo}
use Rattle.canon_image_parts.proofs.Fetching.{bool_high, bool_low, left_short, scalar_bad, scalar_cut, scalar_good, scalar_no_char, scalar_some, scalar_width}
use Rattle.canon_image_parts.proofs.read.read_scalar.Goals.{After-from-size}
use Rattle.canon_image_parts.proofs.read.read_scalar.Goals as goal

width : (c : After-from-size) → c.from-size.result ≡ scalar_size c.requires.scalar.0
width c = scalar_width c.args.types.now c.args.ty.now c.requires.scalar.0 c.requires.scalar.1 c.args.bytes.now c.args.at.now c.from-size.result (c.from-size.ensures ∙ (c.canonical_abi.ensures.size false))

pub returns-then-bytes-at : goal.returns-then-bytes-at
returns-then-bytes-at c =
    let k = c.requires.scalar.0 in
    let a = (goal.at.returns-then-bytes-at c).After-from-size in
    record { reads = scalar_cut c.args.types.now c.args.ty.now k c.requires.scalar.1 c.args.bytes.now c.args.at.now c.args.at.now (left_short c.args.bytes.now c.args.at.now (scalar_size k) (omega (arith, c.if-bytes-at.true, width a)) c.requires.inside) }

pub bounds-bytes-at : goal.bounds-bytes-at
bounds-bytes-at c = omega (arith, c.if-bytes-at.false, c.requires.inside, width (goal.at.bounds-bytes-at c).After-from-size, scalar_some c.requires.scalar.0)

pub returns-then-not-is_spelled : goal.returns-then-not-is_spelled
returns-then-not-is_spelled c =
    let k = c.requires.scalar.0 in
    let room : c.args.at.now + scalar_size k ≤ length c.args.bytes.now = omega (arith, c.if-bytes-at.false, c.requires.inside, width (goal.at.returns-then-not-is_spelled c).After-from-size) in
    let (e, high) = c.if-not-is_spelled.ensures.no refl in
    record {
      reads = scalar_bad c.args.types.now c.args.ty.now k c.requires.scalar.1 c.args.bytes.now c.args.at.now c.args.at.now room (λ i. omega (
        arith,
        c.type_inv.bytes i,
      )) (bool_high c.args.ty.now k c.requires.scalar.1 e c.args.bytes.now c.args.at.now room high);
    }

pub load_scalar-requires-clause-inside : goal.load_scalar-requires-clause-inside
load_scalar-requires-clause-inside c = λ k e.
    let a = (goal.at.load_scalar-requires-clause-inside c).After-from-size in
    let w = scalar_width c.args.types.now c.args.ty.now k e c.args.bytes.now c.args.at.now c.from-size.result (c.from-size.ensures ∙ (c.canonical_abi.ensures.size false)) in
    omega (arith, c.if-bytes-at.false, c.requires.inside, w)

pub returns-in-Ok : goal.returns-in-Ok
returns-in-Ok c =
    let bs = c.args.bytes.now in
    let at = c.args.at.now in
    let k = c.requires.scalar.0 in
    let w = width (goal.at.returns-in-Ok c).After-from-size in
    let room : at + scalar_size k ≤ length bs = omega (arith, c.if-bytes-at.false, c.requires.inside, w) in
    let (u, stored, has, paid) = c.in-Ok.ensures.ok k utf8 0 c.requires.scalar.1 in
    record {
      reads = subst (λ (n : ℕ). ReadsTo bs at (at + n) (shape_of c.args.types.now c.args.ty.now) (Ok c.in-Ok.value)) (sym w)
          (scalar_good c.args.types.now c.args.ty.now k c.requires.scalar.1 bs at c.in-Ok.value u room (λ i. omega (
            arith,
            c.type_inv.bytes i,
          )) stored.1 has (bool_low c.args.ty.now k c.requires.scalar.1 bs at room (c.if-not-is_spelled.ensures.least refl)));
    }

pub returns-in-Err : goal.returns-in-Err
returns-in-Err c =
    let bs = c.args.bytes.now in
    let at = c.args.at.now in
    let k = c.requires.scalar.0 in
    let w = width (goal.at.returns-in-Err c).After-from-size in
    let room : at + scalar_size k ≤ length bs = omega (arith, c.if-bytes-at.false, c.requires.inside, w) in
    record {
      reads = scalar_bad c.args.types.now c.args.ty.now k c.requires.scalar.1 bs at at room (λ i. omega (
        arith,
        c.type_inv.bytes i,
      )) (scalar_no_char k bs at c.in-Err.field-0 c.in-Err.ensures.only_char (c.in-Err.ensures.err k utf8 c.requires.scalar.1));
    }
