use Rattle.std.proofs.Common.{ap, refl, suc, zero, ℕ, ◌≡◌, ◌≢◌, slice_get}
use Rattle.canon_context.specs.Core.{component_types}
use Rattle.canon_host.specs.Forms.{MayGiveValues, ValuesAnswering, over_values}
use Rattle.canon_host.specs.HostSide.{gives_unlogged}
use Rattle.canon_host.proofs.Unlogged.{import_as}
use Rattle.canon_example_imports.specs.Imports.{gives_two, one_of_two}
use Rattle.canon_example_imports.proofs.imported.TwoImportsImports.serve.Goals as goal

-- each number but 0 is of the last function
other_is_last : {T : Type 0} (first last : ValuesAnswering T) (n : ℕ) → n ≢ 0 → one_of_two first last n ≡ last
other_is_last first last zero other = absurd (other refl)
other_is_last first last (suc n) other = refl

pub returns-then-n-eq-CLOCK-clause-serves : goal.returns-then-n-eq-CLOCK-clause-serves
returns-then-n-eq-CLOCK-clause-serves g c =
    let o = slice_get (component_types c.args.cx.core.now).funcs c.args.cx.ty in
    let clock = MayGiveValues g.C.Fn c.args.self.now.clock in
    let diary = MayGiveValues g.D.Fn c.args.self.now.diary in
    let is_clock = ap (λ n. over_values (one_of_two clock diary n)) c.if-n-eq-CLOCK.true in
    let served = c.serve_values_import in
    import_as (gives_unlogged clock) (gives_two clock diary) clock clock (λ type reached params answer state ledger so. so) c.args.n g.G.Guest.seen g.G.Guest.moves refl is_clock
    c.args.cx.ty c.args.cx.options c.args.self.now.refusals served.new.refusals c.args.cx.core.now served.new.cx.0 c.args.storage.now served.new.storage served.result o served.ensures.serves

pub returns-else-n-eq-CLOCK-clause-serves : goal.returns-else-n-eq-CLOCK-clause-serves
returns-else-n-eq-CLOCK-clause-serves g c =
    let o = slice_get (component_types c.args.cx.core.now).funcs c.args.cx.ty in
    let clock = MayGiveValues g.C.Fn c.args.self.now.clock in
    let diary = MayGiveValues g.D.Fn c.args.self.now.diary in
    let is_diary = ap over_values (other_is_last clock diary c.args.n c.if-n-eq-CLOCK.false) in
    let served = c.serve_values_import-else-n-eq-CLOCK in
    import_as (gives_unlogged diary) (gives_two clock diary) diary diary (λ type reached params answer state ledger so. so) c.args.n g.G.Guest.seen g.G.Guest.moves refl is_diary
    c.args.cx.ty c.args.cx.options c.args.self.now.refusals served.new.refusals c.args.cx.core.now served.new.cx.0 c.args.storage.now served.new.storage served.result o served.ensures.serves
