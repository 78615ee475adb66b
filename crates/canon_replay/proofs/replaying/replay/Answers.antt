use Rattle.canon_recording.specs.Recordings.{calls_in, served_asks}
use Rattle.canon_replay.proofs.Whole.{count_first, events_first, few_first, known_first, ready_first, replays_is}
use Rattle.canon_replay.proofs.replaying.replay.Goals as goal

pub replay_calls-requires : goal.replay_calls-requires
replay_calls-requires c =
    let calls = calls_in c.args.r in
    let p = c.in-Ok.parts in
    let s = c.in-Ok-store_of.store in
    let are = c.in-Ok.ensures.parts in
    let new = c.in-Ok-store_of.ensures.new in
    record {
      ready = ready_first c.args.c calls c.args.fuel c.args.turns p.events.items (served_asks p.asks.items) p.calls.items s are new c.requires.fits;
      known = known_first c.args.c calls c.args.fuel c.args.turns p.events.items (served_asks p.asks.items) p.calls.items s are new c.requires.fits;
      count = count_first c.args.c calls c.args.fuel c.args.turns p.events.items (served_asks p.asks.items) p.calls.items s are new;
      few_calls = few_first c.args.c calls c.args.fuel c.args.turns p.events.items (served_asks p.asks.items) p.calls.items s are new c.requires.fits;
      events = events_first c.args.c calls c.args.fuel c.args.turns p.events.items (served_asks p.asks.items) p.calls.items s are new c.requires.fits;
    }

pub returns-in-Ok-store_of : goal.returns-in-Ok-store_of
returns-in-Ok-store_of c =
    let p = c.in-Ok.parts in
    record {
      is = replays_is c.args.c (calls_in c.args.r) c.args.fuel c.args.turns p.events.items (served_asks p.asks.items) p.calls.items c.in-Ok-store_of.store c.in-Ok.ensures.parts c.in-Ok-store_of.ensures.new c.replay_calls.result
          c.replay_calls.ensures.replays c.replay_calls.ensures.short;
    }
