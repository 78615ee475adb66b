use Rattle.std.proofs.Common.{rules, ◌≡◌, ◌++◌, ◌∷◌, []}
use Rattle.canon_memory.specs.Realloc.{block}
use Rattle.canon_memory.proofs.Watch.{more_live, only_place, place_live}
use Rattle.canon_memory.proofs.watched.WatchedGuest.hold.Goals as goal

pub returns-in-Ok-clause-holds : goal.returns-in-Ok-clause-holds
returns-in-Ok-clause-holds g c =
    let place = block c.args.start c.args.size in
    let now = c.args.self.now in
    let held2 = c.push.new.self.items in
    let live2 = c.self.inside.live.items in
    let more : held2 ≡ now.held ++ place ∷ [] = search rules in
    let same : live2 ≡ now.live = search rules in
    record {
      still = λ none. absurd (cc);
      same = search rules;
      grows = more_live now.held now.live held2 live2 place more same;
      only = only_place now.held now.live held2 live2 place more same;
      lives = λ _. place_live now.held now.live held2 live2 place more same;
    }
