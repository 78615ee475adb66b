use Rattle.std.proofs.Common.{Err, Ok}
use Rattle.canon_types.specs.Table.{tuple_members}
use Rattle.canon_context.specs.Core.{component_types, encoding_by, stage_of}
use Rattle.canon_val.specs.Value.{HaveTrees, no_names}
use Rattle.canon_value_parts.proofs.Givens.{words_as}
use Rattle.canon_value_parts.proofs.Lookups.{tuple_names}
use Rattle.canon_value_parts.proofs.StoreSteps.{MemberNamed, value_count_members}
use Rattle.canon_walks.proofs.lower.lower_results_near.Goals as goal

pub returns-in-Ok-clause-lowered : goal.returns-in-Ok-clause-lowered
returns-in-Ok-clause-lowered g c =
    let a = c.args in
    let core = a.core.now in
    let ms = tuple_members (component_types core) a.ty in
    let vs = a.results.now in
    let low = c.in-Ok.ensures.lowers in
    record {
      handles = low.handles;
      lowered = words_as (encoding_by core a.options) ms (MemberNamed ms (no_names vs) vs) (HaveTrees ms vs) (λ ts have. have.1) (λ ts have. (tuple_names (component_types core) a.ty vs c.requires.count, have))
          (stage_of g.G.Guest.seen g.G.Guest.moves core) (stage_of g.G.Guest.seen g.G.Guest.moves c.lower_parts.new.core) c.lower_parts.new.dst _ low.lowered;
      passed = low.handed;
    }

pub returns-in-Err-clause-lowered : goal.returns-in-Err-clause-lowered
returns-in-Err-clause-lowered g c =
    let a = c.args in
    let core = a.core.now in
    let ms = tuple_members (component_types core) a.ty in
    let vs = a.results.now in
    let low = c.in-Err.ensures.lowers in
    record {
      handles = low.handles;
      lowered = words_as (encoding_by core a.options) ms (MemberNamed ms (no_names vs) vs) (HaveTrees ms vs) (λ ts have. have.1) (λ ts have. (tuple_names (component_types core) a.ty vs c.requires.count, have))
          (stage_of g.G.Guest.seen g.G.Guest.moves core) (stage_of g.G.Guest.seen g.G.Guest.moves c.lower_parts.new.core) c.lower_parts.new.dst _ low.lowered;
      passed = low.handed;
    }

pub returns-in-Err-clause-cause : goal.returns-in-Err-clause-cause
returns-in-Err-clause-cause g c =
    let a = c.args in
    let t = component_types a.core.now in
    value_count_members (encoding_by a.core.now a.options) 0 (tuple_members t a.ty) (no_names a.results.now) a.results.now 0 (Err c.in-Err.fault)
    (tuple_names t a.ty a.results.now c.requires.count) c.in-Err.ensures.lowers.counted

pub returns-in-Ok-clause-small : goal.returns-in-Ok-clause-small
returns-in-Ok-clause-small g c =
    let a = c.args in
    let t = component_types a.core.now in
    (value_count_members (encoding_by a.core.now a.options) 0 (tuple_members t a.ty) (no_names a.results.now) a.results.now 0 (Ok _) (tuple_names t a.ty a.results.now c.requires.count) c.in-Ok.ensures.lowers.counted).1
