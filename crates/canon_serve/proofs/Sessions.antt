-- A session, command by command.
use Rattle.std.proofs.Common.{Bool, List, None, Option, Some, Vec, [], ap, inl, inr, refl, subst, sym, ℕ, ◌++◌, ◌∙◌, ◌∷◌, ◌≡◌}
use Rattle.std.specs.Prelude.{IfSome}
use Rattle.std.specs.declared.alloc.Global.{Global}
use Rattle.std.proofs.lemmas.List.{append-nil, append_assoc}
use Rattle.canon_context.specs.declared.fault.Fault.TheVariants as fault
use Rattle.canon_func.specs.declared.error.Error.TheVariants as error
use Rattle.canon_relay.specs.Channel.{AddsMessages, Message}
use Rattle.canon_relay.specs.Relay.{PassesMessages, adds_both, adds_none}
use Rattle.canon_serve.specs.Begins.{HasComponent, HasNoComponent, IsBegun}
use Rattle.canon_serve.specs.Carries.{AnswersShort, CarriesOutCommand, EngineSession, EngineStore, SessionLogs, session}
use Rattle.canon_serve.specs.Messages.{HearsCommand, HearsNothing, IsStrictPrefix, answer_messages}
use Rattle.canon_serve.specs.Sessions.{CommandTurn, CutsCommand, EndsAtOnce, EndsSession, EndsUnbegun, GoesOnAfter, IsFirstAnswer, IsFirstTurn, IsSession, MayRunShort, ServesAll, ServesOne, ServesTurn, ServesTurns, ServesUntil, ToldOrCut, command_messages, one_turn_messages, unheard_end}
use Rattle.canon_serve.specs.declared.answer.Answer.{Answer}
use Rattle.canon_serve.specs.declared.answer.Answer.TheVariants as answer
use Rattle.canon_serve.specs.declared.answer.Senseless.{Senseless}
use Rattle.canon_serve.specs.declared.answer.Senseless.TheVariants as senseless
use Rattle.canon_serve.specs.declared.begin.NoStore.{NoStore}
use Rattle.canon_serve.specs.declared.begin.NoStore.TheVariants as no_store
use Rattle.canon_serve.specs.declared.command.Command.{Command}
use Rattle.canon_serve.specs.declared.command.Command.TheVariants as command
use Rattle.canon_serve.specs.declared.command.Unheard.{Unheard}
use Rattle.canon_serve.specs.declared.command.Unheard.TheVariants as unheard
use Rattle.canon_serve.specs.declared.serving.End.{End}
use Rattle.canon_serve.specs.declared.serving.End.TheVariants as end

-- ---- one more turn

messages_more : (ts : List CommandTurn) (t : CommandTurn) → command_messages (ts ++ t ∷ []) ≡ command_messages ts ++ one_turn_messages t
messages_more [] t = append-nil (one_turn_messages t)
messages_more (u ∷ ts) t = ap (λ ms. one_turn_messages u ++ ms) (messages_more ts t) ∙ sym (append_assoc (one_turn_messages u) (command_messages ts) (one_turn_messages t))

-- any but the one that ends it
pub goes_on_after : (asked : Command) → (asked ≡ command.End → ⊥) → GoesOnAfter asked
goes_on_after command.End not = not refl
goes_on_after (command.Begin all keeps json) not = tt
goes_on_after (command.Call export params) not = tt
goes_on_after command.Live not = tt
goes_on_after command.Marks not = tt
goes_on_after (command.Drop number) not = tt
goes_on_after (command.New ty rep) not = tt
goes_on_after command.Events not = tt
goes_on_after command.Unknown not = tt

module _ {E H : Type 0} (logs : SessionLogs E H) where
  serves_more : (ts : List CommandTurn) (t : CommandTurn) (s next last : EngineSession E H) → ServesTurns logs ts s next → ServesTurn logs t next last → ServesTurns logs (ts ++ t ∷ []) s last
  serves_more [] t s next last here served = (last, subst (λ u. ServesTurn logs t u last) here served, refl)
  serves_more (u ∷ ts) t s next last serves served = (serves.0, serves.1, serves_more ts t serves.0 next last serves.2 served)

  pub serves_none : (a : Option (List Message)) (s : EngineSession E H) → ServesAll logs a a s s
  serves_none a s = record { turns = []; serves = refl; passed = adds_none a }

  pub serves_next : (a b c : Option (List Message)) (s next last : EngineSession E H) → ServesAll logs a b s next → ServesOne logs b c next last → ServesAll logs a c s last
  serves_next a b c s next last f g = record {
    turns = f.turns ++ g.0 ∷ [];
    serves = serves_more f.turns g.0 s next last f.serves g.1;
    passed = subst (AddsMessages a c) (sym (messages_more f.turns g.0)) (adds_both a b c (command_messages f.turns) (one_turn_messages g.0) f.passed g.2);
  }

  -- a command that was heard was carried out, and its answer told
  pub served_one : (a b c : Option (List Message)) (s t : EngineSession E H) (asked : Command) (answered : Answer) → GoesOnAfter asked → PassesMessages a b (HearsCommand asked) → CarriesOutCommand logs asked s t answered
      → AddsMessages b c (answer_messages answered) → ServesOne logs a c s t
  served_one a b c s t asked answered goes_on heard carried told = (
    record { asked = asked; heard = heard.0; answered = answered },
    (goes_on, heard.2, carried),
    adds_both a b c heard.0 (answer_messages answered) heard.1 told,
  )

  -- memory ran out for its answer
  may_run_short : (asked : Command) (s t : EngineSession E H) → AnswersShort logs asked s t → MayRunShort asked
  may_run_short (command.Call export params) s t h = tt
  may_run_short command.Live s t h = tt
  may_run_short command.Marks s t h = tt
  may_run_short (command.New ty rep) s t h = tt
  may_run_short command.Events s t h = tt
  may_run_short (command.Drop number) s t h = absurd h
  may_run_short command.End s t h = absurd h
  may_run_short (command.Begin all keeps json) s t h = absurd h
  may_run_short command.Unknown s t h = absurd h

  -- or it wasn't told whole
  pub cut_command : (a b c : Option (List Message)) (s t : EngineSession E H) (asked : Command) (why : End) → GoesOnAfter asked → PassesMessages a b (HearsCommand asked) → CutsCommand logs why asked s t b c
      → PassesMessages a c (EndsSession logs why s)
  cut_command a b c s t asked end.Broken goes_on heard cut = (
    heard.0 ++ cut.2.0,
    adds_both a b c heard.0 cut.2.0 heard.1 cut.2.1,
    inr (record { turn = record { asked = asked; heard = heard.0; answered = cut.0 }; next = t; serves = (goes_on, heard.2, cut.1); part = cut.2.0; first = cut.2.2; are = refl }),
  )
  cut_command a b c s t asked end.OutOfMemory goes_on heard cut = (heard.0, subst (λ l. AddsMessages a l heard.0) (sym cut.1) heard.1, inr (asked, may_run_short asked s t cut.0, heard.2))
  cut_command a b c s t asked end.Asked goes_on heard cut = absurd cut
  cut_command a b c s t asked end.NoComponent goes_on heard cut = absurd cut
  cut_command a b c s t asked end.NotInstantiated goes_on heard cut = absurd cut

  pub cut_ends : (a b c : Option (List Message)) (s t : EngineSession E H) (asked : Command) (r : Option End) → GoesOnAfter asked → PassesMessages a b (HearsCommand asked) → IfSome r (λ why. CutsCommand logs why asked s t b c)
      → IfSome r (λ why. PassesMessages a c (EndsSession logs why s))
  cut_ends a b c s t asked None goes_on heard cut = cut
  cut_ends a b c s t asked (Some why) goes_on heard cut = cut_command a b c s t asked why goes_on heard cut

  -- nothing more was heard
  pub unheard_last : (a b : Option (List Message)) (s : EngineSession E H) (why : Unheard) (r : End) → r ≡ unheard_end why → PassesMessages a b (HearsNothing why) → PassesMessages a b (EndsSession logs r s)
  unheard_last a b s unheard.Broken r is heard = subst (λ e. PassesMessages a b (EndsSession logs e s)) (sym is) (heard.0, heard.1, inl heard.2)
  unheard_last a b s unheard.OutOfMemory r is heard = subst (λ e. PassesMessages a b (EndsSession logs e s)) (sym is) (heard.0, heard.1, inl heard.2)

  pub serves_until : (a b c : Option (List Message)) (s last : EngineSession E H) (why : End) → ServesAll logs a b s last → PassesMessages b c (EndsSession logs why last) → ServesUntil logs a c s why
  serves_until a b c s last why f ends = record { last = last; between = b; served = f; ends = ends }

-- ---- the first command

pub unheard_first : (a b : Option (List Message)) (why : Unheard) (r : End) → r ≡ unheard_end why → PassesMessages a b (HearsNothing why) → PassesMessages a b (EndsAtOnce r)
unheard_first a b unheard.Broken r is heard = subst (λ e. PassesMessages a b (EndsAtOnce e)) (sym is) (heard.0, heard.1, inl heard.2)
unheard_first a b unheard.OutOfMemory r is heard = subst (λ e. PassesMessages a b (EndsAtOnce e)) (sym is) (heard.0, heard.1, inl heard.2)

-- it is none that begins a session
pub other_first : (asked : Command) → ((all keeps : Bool) (json : Vec ℕ Global) → asked ≡ command.Begin all keeps json → ⊥) → IsFirstAnswer asked (answer.Senseless senseless.NoCommand)
other_first (command.Begin all keeps json) not = absurd (not all keeps json refl)
other_first (command.Call export params) not = tt
other_first command.End not = tt
other_first command.Live not = tt
other_first command.Marks not = tt
other_first (command.Drop number) not = tt
other_first (command.New ty rep) not = tt
other_first command.Events not = tt
other_first command.Unknown not = tt

module _ (a b c : Option (List Message)) (asked : Command) (answered : Answer) (heard : PassesMessages a b (HearsCommand asked)) (first : IsFirstAnswer asked answered) where
  abbrev turn : CommandTurn
  turn = record { asked = asked; heard = heard.0; answered = answered }

  -- an answer was told in part
  pub cut_first : PassesMessages b c (IsStrictPrefix (answer_messages answered)) → PassesMessages a c (EndsAtOnce end.Broken)
  cut_first cut = (
    heard.0 ++ cut.0,
    adds_both a b c heard.0 cut.0 heard.1 cut.1,
    inr (record { turn = turn; heard = heard.2; answered = first; part = cut.0; first = cut.2; are = refl }),
  )

  -- it was told whole, and the session ended
  whole_first : (IsKind : Answer → Type 0) → IsKind answered → AddsMessages b c (answer_messages answered) → PassesMessages a c (IsFirstTurn IsKind)
  whole_first IsKind kind told = (
    heard.0 ++ answer_messages answered,
    adds_both a b c heard.0 (answer_messages answered) heard.1 told,
    record { turn = turn; heard = heard.2; answered = first; kind = kind; are = refl },
  )

  pub no_component : (why : Senseless) → answered ≡ answer.Senseless why → (result : End) → ToldOrCut answered end.NoComponent b c result → PassesMessages a c (EndsAtOnce result)
  no_component why is result (inl told) = subst (λ r. PassesMessages a c (EndsAtOnce r)) (sym told.0) (whole_first _ (why, is) told.1)
  no_component why is result (inr cut) = subst (λ r. PassesMessages a c (EndsAtOnce r)) (sym cut.0) (cut_first cut.1)

  pub not_instantiated : answered ≡ answer.Refused (error.Fault fault.GuestTrap) → (result : End) → ToldOrCut answered end.NotInstantiated b c result → PassesMessages a c (EndsAtOnce result)
  not_instantiated is result (inl told) = subst (λ r. PassesMessages a c (EndsAtOnce r)) (sym told.0) (whole_first _ is told.1)
  not_instantiated is result (inr cut) = subst (λ r. PassesMessages a c (EndsAtOnce r)) (sym cut.0) (cut_first cut.1)

-- a component was heard, but no store began
pub unbegun : (a b c : Option (List Message)) (all keeps : Bool) (json : Vec ℕ Global) (why : NoStore) (result : End) → PassesMessages a b (HearsCommand (command.Begin all keeps json))
    → (why ≡ no_store.NoComponent → HasNoComponent json.items) → (why ≡ no_store.NotInstantiated → HasComponent json.items) → EndsUnbegun why b c result → PassesMessages a c (EndsAtOnce result)
unbegun a b c all keeps json no_store.NoComponent result heard none not ended = no_component a b c (command.Begin all keeps json) (answer.Senseless senseless.NoComponent) heard (none refl) senseless.NoComponent refl result ended
unbegun a b c all keeps json no_store.NotInstantiated result heard none not ended = not_instantiated a b c (command.Begin all keeps json) (answer.Refused (error.Fault fault.GuestTrap)) heard (not refl) refl result ended
unbegun a b c all keeps json no_store.OutOfMemory result heard none not ended =
    subst (λ r. PassesMessages a c (EndsAtOnce r)) (sym ended.0) (heard.0, subst (λ l. AddsMessages a l heard.0) (sym ended.1) heard.1, inr (all, keeps, json, heard.2))

-- ---- a session

module _ {E H : Type 0} (logs : SessionLogs E H) (engine : E) (host : H) where
  pub begun_session : (a b c d : Option (List Message)) (all keeps : Bool) (json empty : Vec ℕ Global) (s : EngineStore E H) (why : End) → PassesMessages a b (HearsCommand (command.Begin all keeps json))
      → IsBegun logs.engine engine host all keeps json.items s → empty.items ≡ [] → AddsMessages b c (answer_messages (answer.Done empty)) → ServesUntil logs c d (session s []) why → IsSession logs engine host a d why
  begun_session a b c d all keeps json empty s why heard begun is_empty told served = inl (record {
    store = s;
    between = c;
    begins = record { watches_all = all; keeps_events = keeps; json = json; heard = heard.0; is_heard = heard.2; begun = begun; empty = empty; is_empty = is_empty; passed = adds_both a b c heard.0 (answer_messages (answer.Done empty)) heard.1 told };
    served = served;
  })
