use Rattle.std.proofs.Common.{ap, refl}
use Rattle.canon_script.specs.Typed.{typed_view}
use Rattle.canon_player.specs.Signatures.{number_signature, numbers_signature, pairs_signature, text_signature}
use Rattle.canon_player.proofs.TypedPlayed.{play_is}
use Rattle.canon_player.proofs.typed.play_typed.Goals as goal

pub returns-in-Number-clause-typed : goal.returns-in-Number-clause-typed
returns-in-Number-clause-typed c =
    play_is c.args.item _ (ap typed_view c.in-Number.is) _ _ _ _ _ c.make_typed.result number_signature (record { 0 = c.in-Number.n }) refl (λ r h. h) c.make_typed.ensures.typed

pub returns-in-Text-clause-typed : goal.returns-in-Text-clause-typed
returns-in-Text-clause-typed c =
    play_is c.args.item _ (ap typed_view c.in-Text.is) _ _ _ _ _ c.make_typed-in-Text.result text_signature (record { 0 = c.in-Text.text }) refl (λ r h. h) c.make_typed-in-Text.ensures.typed

pub returns-in-Numbers-clause-typed : goal.returns-in-Numbers-clause-typed
returns-in-Numbers-clause-typed c =
    play_is c.args.item _ (ap typed_view c.in-Numbers.is) _ _ _ _ _ c.make_typed-in-Numbers.result numbers_signature (record { 0 = c.in-Numbers.numbers }) refl (λ r h. h) c.make_typed-in-Numbers.ensures.typed

pub returns-in-Pairs-clause-typed : goal.returns-in-Pairs-clause-typed
returns-in-Pairs-clause-typed c =
    play_is c.args.item _ (ap typed_view c.in-Pairs.is) _ _ _ _ _ c.make_typed-in-Pairs.result pairs_signature (c.in-Pairs.pairs, c.in-Pairs.flag) refl (λ r h. h) c.make_typed-in-Pairs.ensures.typed
