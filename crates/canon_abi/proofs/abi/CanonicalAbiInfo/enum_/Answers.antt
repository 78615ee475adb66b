use Rattle.canon_abi.proofs.Ties.{enum_answer, enum_info}
use Rattle.canon_abi.proofs.abi.CanonicalAbiInfo.enum_.Goals as goal

pub returns-clause-layout : goal.returns-clause-layout
returns-clause-layout c = enum_answer c.enum_numbers.result.0 c.args.count c.enum_numbers.ensures.abi

pub returns-clause-info : goal.returns-clause-info
returns-clause-info c = enum_info c.enum_numbers.result.1 c.args.count (record {
  tag = c.enum_numbers.ensures.tag;
  offset = c.enum_numbers.ensures.offset;
  offset64 = c.enum_numbers.ensures.offset64;
}) c.requires.few
