-- A script that is read is sound.
use Rattle.std.proofs.Common.{◌≡◌, ℕ, ◌<◌, ◌≤◌, ◌+◌, ◌*◌, ◌^◌, List, [], ◌∷◌, length, Bool, false, is_some, nat_eq, option_map, sym, true, nat_le, nat_lt, IsTrue, if◌then◌else◌, codes, Option, None, Some, Result, Ok, Err, IfOk, subst, option_and_then}
use Rattle.std.proofs.lemmas.Bool.{and_parts, leb-true, ltb-true}
use Rattle.std.proofs.lemmas.List.Elements.{All-from_recursion}
use Rattle.std.proofs.lemmas.Option.{option_and_then_some, same_Some}
use Rattle.std.specs.List.{AllByRecursion}
use Rattle.std.specs.Option.{option_map_or}
use lib.Pointwise.{pointwise}
use Rattle.serde_json.specs.Data.{Data, Items, array, boolean, null, number, object, string}
use Rattle.serde_json.specs.Find.{as_array, as_bool, as_object, get}
use Rattle.canon_json.specs.Json.{ReadsAs, each, each_of, has_len, u32_of, word_of}
use Rattle.canon_json.specs.declared.error.ScriptError.{ScriptError}
use Rattle.canon_json.proofs.Found.{by_map, by_test, each_all}
use Rattle.canon_types.specs.Table.{TypeTable}
use Rattle.canon_script.specs.Actions.{action_of, ordered_of}
use Rattle.canon_scripted.specs.declared.orders.Ordered.{Ordered}
use Rattle.canon_scripted.specs.declared.orders.Ordered.TheVariants as order
use Rattle.canon_scripted.specs.Orders.{AreNarrow, IsNarrow}
use Rattle.canon_script.specs.Script.{IsWellFormed, ItemStands, Play, ScriptCall, ScriptItem, ScriptTyped, call_item, call_item_of, call_of_func, call_with, called_item_of, drop_item, drop_item_of, encoding_setting, final_memory, fits, fuel_setting, handles_setting, heap_setting, if_fits, item_of, max_memory, max_work, memory_setting, new_item, new_item_of, optional_call_members, other_item_of, play_of, play_with, played, played_over, reallocs_of, settings_of, settings_with, slots_of, times_entered, turns_setting, typed_item, typed_item_of, typed_of_func, typed_params_of, typed_with, optional_typed_members}
use Rattle.canon_script.specs.declared.script.Settings.{Settings}
use Rattle.canon_script.specs.Imports.{func_result_count}
use Rattle.canon_script.specs.Numbers.{if_below}
use Rattle.canon_script.specs.Types.{Declared, declared_of}
use Rattle.canon_script.specs.Values.{value_of}
use Rattle.canon_script.specs.declared.script.Script.{Script}
use Rattle.canon_script.proofs.Declared.{AreDeclared, declared_sound}
use Rattle.canon_script.proofs.Imported.{below}

-- ---- calls

u32_narrow : (d : Data) (n : ℕ) → u32_of d ≡ Some n → n < 2 ^ 32
u32_narrow d n e = option_and_then_some (λ m. if nat_lt m (2 ^ 32) then Some m else None) (word_of d) n e (λ m s h.
    by_test (nat_lt m (2 ^ 32)) (Some m) n h (λ lt is. subst (λ (k : ℕ). k < 2 ^ 32) (same_Some m n is) (ltb-true m (2 ^ 32) lt)))

trap_narrow : (b : Bool) (o : Ordered) → (if b then Some order.Trap else None) ≡ Some o → IsNarrow o
trap_narrow b o e = by_test b (Some order.Trap) o e (λ t is. subst IsNarrow (same_Some order.Trap o is) tt)

ordered_narrow : (d : Data) (o : Ordered) → ordered_of d ≡ Some o → IsNarrow o
ordered_narrow null o e = subst IsNarrow (same_Some order.Free o e) tt
ordered_narrow (boolean b) o e = absurd (cc)
ordered_narrow (number n) o e = by_map order.Answer (u32_of (number n)) o e (λ a s is. subst IsNarrow is (u32_narrow (number n) a s))
ordered_narrow (string s) o e = trap_narrow (pointwise nat_eq s (codes "trap")) o e
ordered_narrow (array ds) o e = absurd (cc)
ordered_narrow (object ms) o e = absurd (cc)

are_narrow : (os : List Ordered) → AllByRecursion IsNarrow os → AreNarrow os
are_narrow [] h = tt
are_narrow (o ∷ os) h = (h.0, are_narrow os h.1)

reallocs_narrow : (d : Option Data) (os : List Ordered) → reallocs_of d ≡ Some os → AreNarrow os
reallocs_narrow None os e = subst AreNarrow (same_Some [] os e) tt
reallocs_narrow (Some d) os e = option_and_then_some (each ordered_of) (as_array d) os e (λ ds s h. are_narrow os (each_all IsNarrow ordered_of ordered_narrow ds os h))

called : (count : ℕ) (d : Data) (func results : ℕ) (c : ScriptCall) → func < count → call_of_func d func results ≡ Some c → ItemStands count (call_item c)
called count d func results c known e =
    option_and_then_some _ (slots_of results (get (codes "slots") d)) c e (λ slots s1 e1.
    option_and_then_some _ (option_map_or as_bool (get (codes "post_trap") d) (Some false)) c e1 (λ post s2 e2.
    option_and_then_some _ (option_and_then (each_of value_of) (get (codes "params") d)) c e2 (λ params s3 e3.
    option_and_then_some _ (option_and_then (each_of action_of) (get (codes "guest") d)) c e3 (λ guest s4 e4.
    by_map (λ reallocs. call_with func params guest slots reallocs post) (reallocs_of (get (codes "reallocs") d)) c e4 (λ reallocs s5 is.
    subst (λ (x : ScriptCall). ItemStands count (call_item x)) is (known, reallocs_narrow (get (codes "reallocs") d) reallocs s5))))))

call_stands : (t : TypeTable) (count : ℕ) (d : Data) (c : ScriptCall) → call_item_of t count d ≡ Some c → ItemStands count (call_item c)
call_stands t count d c e =
    by_test (has_len (3 + optional_call_members d) (as_object d)) _ c e (λ counted e1.
    option_and_then_some (λ func. option_and_then (call_of_func d func) (func_result_count t func)) (option_and_then (if_below count) (option_and_then u32_of (get (codes "call") d))) c e1 (λ func s1 e2.
    option_and_then_some (call_of_func d func) (func_result_count t func) c e2 (λ results s2 e3.
    option_and_then_some (if_below count) (option_and_then u32_of (get (codes "call") d)) func s1 (λ n s3 e4. called count d func results c (below count n func e4) e3))))

typed_called : (count : ℕ) (d : Data) (func : ℕ) (c : ScriptTyped) → func < count → typed_of_func d func ≡ Some c → ItemStands count (typed_item c)
typed_called count d func c known e =
    option_and_then_some _ (option_map_or as_bool (get (codes "post_trap") d) (Some false)) c e (λ post s1 e1.
    option_and_then_some _ (typed_params_of d) c e1 (λ params s2 e2.
    option_and_then_some _ (option_and_then (each_of action_of) (get (codes "guest") d)) c e2 (λ guest s3 e3.
    by_map (λ reallocs. typed_with func params guest reallocs post) (reallocs_of (get (codes "reallocs") d)) c e3 (λ reallocs s4 is.
    subst (λ (x : ScriptTyped). ItemStands count (typed_item x)) is (known, reallocs_narrow (get (codes "reallocs") d) reallocs s4)))))

typed_stands : (count : ℕ) (d : Data) (c : ScriptTyped) → typed_item_of count d ≡ Some c → ItemStands count (typed_item c)
typed_stands count d c e =
    by_test (has_len (4 + optional_typed_members d) (as_object d)) _ c e (λ counted e1.
    option_and_then_some (typed_of_func d) (option_and_then (if_below count) (option_and_then u32_of (get (codes "call") d))) c e1 (λ func s1 e2.
    option_and_then_some (if_below count) (option_and_then u32_of (get (codes "call") d)) func s1 (λ n s2 e3. typed_called count d func c (below count n func e3) e2)))

called_stands : (t : TypeTable) (count : ℕ) (d : Data) (i : ScriptItem) → called_item_of t count d ≡ Some i → ItemStands count i
called_stands t count d i e = by_cases (is_some (get (codes "typed") d)) e
  where
    by_cases : (b : Bool) → (if b then option_map typed_item (typed_item_of count d) else option_map call_item (call_item_of t count d)) ≡ Some i → ItemStands count i
    by_cases true e = by_map typed_item (typed_item_of count d) i e (λ c s is. subst (ItemStands count) is (typed_stands count d c s))
    by_cases false e = by_map call_item (call_item_of t count d) i e (λ c s is. subst (ItemStands count) is (call_stands t count d c s))

other_stands : (t : TypeTable) (count : ℕ) (d : Data) (i : ScriptItem) → other_item_of t d ≡ Some i → ItemStands count i
other_stands t count d i e = by_cases (is_some (get (codes "new") d)) e
  where
    by_cases : (b : Bool) → (if b then option_map new_item (new_item_of t d) else option_map drop_item (drop_item_of d)) ≡ Some i → ItemStands count i
    by_cases true e = by_map new_item (new_item_of t d) i e (λ n s is. subst (ItemStands count) is tt)
    by_cases false e = by_map drop_item (drop_item_of d) i e (λ n s is. subst (ItemStands count) is tt)

item_stands : (t : TypeTable) (count : ℕ) (d : Data) (i : ScriptItem) → item_of t count d ≡ Some i → ItemStands count i
item_stands t count d i e = by_cases (is_some (get (codes "call") d)) e
  where
    by_cases : (b : Bool) → (if b then called_item_of t count d else other_item_of t d) ≡ Some i → ItemStands count i
    by_cases true e = called_stands t count d i e
    by_cases false e = other_stands t count d i e

-- ---- all of it

pub heap_is : (memory heap : ℕ) (d : Option Data) → heap_setting memory d ≡ Some heap → heap ≤ memory
heap_is memory heap d e = option_and_then_some (λ h. if nat_le h memory then Some h else None) (option_map_or word_of d (Some 1024)) heap e (λ h s f.
    by_test (nat_le h memory) (Some h) heap f (λ le is. subst (λ (n : ℕ). n ≤ memory) (same_Some h heap is) (leb-true h memory le)))

pub settings_sound : (d : Data) (s : Settings) → settings_of d ≡ Some s → s.heap ≤ s.memory
settings_sound d s e =
    option_and_then_some _ (memory_setting (get (codes "memory") d)) s e (λ memory s1 e1.
    option_and_then_some _ (heap_setting memory (get (codes "heap") d)) s e1 (λ heap s2 e2.
    option_and_then_some _ (fuel_setting (get (codes "fuel") d)) s e2 (λ fuel s3 e3.
    option_and_then_some _ (handles_setting (get (codes "handles") d)) s e3 (λ handles s4 e4.
    option_and_then_some _ (turns_setting (get (codes "turns") d)) s e4 (λ turns s5 e5.
    by_map (settings_with memory heap fuel handles turns) (encoding_setting (get (codes "encoding") d)) s e5 (λ encoding s6 is.
    subst (λ (x : Settings). x.heap ≤ x.memory) is (heap_is memory heap (get (codes "heap") d) s2)))))))

module _ (s : Settings) (inside : s.heap ≤ s.memory) (items : Items) where
  fits_sound : (d : Declared) (found : List ScriptItem) → AreDeclared d → AllByRecursion (ItemStands (length d.posts)) found → IsTrue (fits s.memory found) → IsWellFormed (play_with s d found)
  fits_sound d found are stand fit =
      let last = final_memory s.memory found in
      let fit2 = and_parts (nat_le last max_memory) (nat_le (last * 2 * times_entered found) max_work) fit in
      record {
        heap_inside = inside;
        memory_fits = leb-true last max_memory fit2.0;
        work_fits = leb-true (last * 2 * times_entered found) max_work fit2.1;
        posts_told = are.told;
        posts_few = are.few;
        imports_stand = are.imports;
        answers_stand = are.answers;
        items_stand = All-from_recursion (ItemStands (length d.posts)) found stand;
      }

  over_sound : (d : Declared) (p : Play) → AreDeclared d → played_over s items d ≡ Some p → IsWellFormed p
  over_sound d p are e =
      option_and_then_some (if_fits s d) (each (item_of d.table (length d.posts)) items) p e (λ found s1 e1.
      by_test (fits s.memory found) (Some (play_with s d found)) p e1 (λ fit same.
      subst IsWellFormed (same_Some (play_with s d found) p same)
      (fits_sound d found are (each_all (ItemStands (length d.posts)) (item_of d.table (length d.posts)) (item_stands d.table (length d.posts)) items found s1) fit)))

  played_sound : (resources types funcs imports : Items) (p : Play) → played s resources types funcs imports items ≡ Some p → IsWellFormed p
  played_sound resources types funcs imports p e =
      option_and_then_some (played_over s items) (declared_of resources types funcs imports) p e (λ d s1 e1. over_sound d p (declared_sound resources types funcs imports d s1) e1)

pub reads_sound : (d : Data) (s : Settings) (resources types funcs imports items : Items) (r : Result Script ScriptError) → Some s ≡ settings_of d
    → ReadsAs play_of r (played s resources types funcs imports items) → IfOk r (λ x. IsWellFormed (play_of x))
reads_sound d s resources types funcs imports items (Ok x) e h = played_sound s (settings_sound d s (sym e)) items resources types funcs imports (play_of x) h
reads_sound d s resources types funcs imports items (Err f) e h = tt
