use Rattle.std.proofs.Common.{◌∙◌, ap, arith, sym}
use Rattle.canon_scripted.specs.Allocator.{Allocator}
use Rattle.canon_scripted.proofs.Steps.{does_larger, does_last, does_smaller, does_unaligned}
use Rattle.canon_scripted.proofs.allocator.Allocator.allocate.Goals as goal

pub returns-then-old-align-ne0-clause-does : goal.returns-then-old-align-ne0-clause-does
returns-then-old-align-ne0-clause-does c =
    let a = c.args in
    does_unaligned a.len a.self.now c.in-Some.index a.old a.old_size a.align c.from-align.result a.new_size c.from-align.ensures c.if-old_size-eq0.false c.in-Some.ensures _ _
    c.if-old-align-ne0.true c.move_block.ensures.does

pub returns-then-old-old_size-clause-does : goal.returns-then-old-old_size-clause-does
returns-then-old-old_size-clause-does c =
    let a = c.args in
    does_last a.len a.self.now c.in-Some.index a.old a.old_size a.align c.from-align.result a.new_size c.from-align.ensures c.if-old_size-eq0.false c.in-Some.ensures _ _
    (c.if-old-old_size.true ∙ ap (λ (b : Allocator). b.top) c.self.view_is) c.if-old-align-ne0.false c.resize_last.ensures.does

pub returns-then-new_size-old_size-clause-does : goal.returns-then-new_size-old_size-clause-does
returns-then-new_size-old_size-clause-does c =
    let a = c.args in
    does_smaller a.len a.self.now c.in-Some.index a.old a.old_size a.align c.from-align.result a.new_size c.from-align.ensures c.if-old_size-eq0.false c.in-Some.ensures _ _
    (λ e. c.if-old-old_size.false (e ∙ sym (ap (λ (b : Allocator). b.top) c.self.view_is))) c.if-new_size-old_size.true c.if-old-align-ne0.false c.shrink.ensures.does

pub returns-clause-does : goal.returns-clause-does
returns-clause-does c =
    let a = c.args in
    does_larger a.len a.self.now c.in-Some.index a.old a.old_size a.align c.from-align.result a.new_size c.from-align.ensures c.if-old_size-eq0.false c.in-Some.ensures _ _
    (λ e. c.if-old-old_size.false (e ∙ sym (ap (λ (b : Allocator). b.top) c.self.view_is))) (omega (arith, c.if-new_size-old_size.false)) c.move_block-2.ensures.does
