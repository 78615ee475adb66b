use Rattle.std.proofs.Common.{List, arith, rules, string_bytes, subst, sym, take, ℕ}
use Rattle.canon_model.specs.Shape.{Name}
use Rattle.canon_types.specs.Keeps.{names_of}
use Rattle.canon_value_parts.specs.Flags.{flag_names}
use Rattle.canon_value_parts.proofs.FlagWriting.{ArePut, last_name, next_name, next_unknown, put_begin, value_put_end, put_more}
use Rattle.canon_value_parts.proofs.flags.put_flags.Goals as goal

pub loop-name-init : goal.loop-name-init
loop-name-init c = put_begin c.args.dst.now c.clear_words.new.dst c.args.first c.args.count _ c.clear_words.ensures.written c.clear_words.ensures.none

pub returns-in_default-clause-unknown : goal.returns-in_default-clause-unknown
returns-in_default-clause-unknown c =
    λ _. next_unknown c.args.set.now.items c.deref-name-items.result.now c.deref-name-items.ensures.value c.loop-name.name-index c.name-item.result (omega arith) c.name-item.is _ (search (rules, c.in_default.ensures.none))

pub loop-name-preserved : goal.loop-name-preserved
loop-name-preserved c =
    let ys = c.deref-name-items.result.now in
    let i = c.loop-name.name-index in
    let names = flag_names c.args.types.now c.args.i in
    let set = names_of (take i ys) in
    let next = next_name c.args.set.now.items ys c.deref-name-items.ensures.value i c.name-item.result (omega arith) c.name-item.is in
    let (inside, at) = c.in-Some.ensures.some in
    subst (λ (xs : List Name). ArePut c.args.dst.now c.mark_word.new.dst c.args.first c.args.count names xs) (sym next)
    (put_more c.args.dst.now c.loop-name.dst c.mark_word.new.dst c.args.first c.args.count names set c.in-Some.k (string_bytes c.name-item.result) c.requires.count c.number_of.ensures.differ
    c.loop-name.invariant inside at c.mark_word.ensures)

pub returns-clause-put : goal.returns-clause-put
returns-clause-put c =
    let ys = c.deref-name-items.result.now in
    let names = flag_names c.args.types.now c.args.i in
    let all = last_name c.args.set.now.items ys c.loop-name.name-index c.deref-name-items.ensures.value (omega arith) (omega arith) in
    λ _. value_put_end c.args.dst.now c.loop-name.dst c.args.first names (names_of c.args.set.now.items)
    (subst (λ (n : ℕ). ArePut c.args.dst.now c.loop-name.dst c.args.first n names (names_of c.args.set.now.items)) c.requires.count
    (subst (λ (xs : List Name). ArePut c.args.dst.now c.loop-name.dst c.args.first c.args.count names xs) all c.loop-name.invariant))
