use Rattle.std.specs.Prelude.{codes, string_bytes}
use Rattle.canon_transcript.proofs.Pushed.{pushed}
use Rattle.canon_transcript.proofs.errors.print_refusal.Goals as goal

pub returns-in-UnknownHandle : goal.returns-in-UnknownHandle
returns-in-UnknownHandle c = rw c.in-UnknownHandle.is c.write.ensures.bytes

pub returns-in-NotAResource : goal.returns-in-NotAResource
returns-in-NotAResource c = rw c.in-NotAResource.is c.write-in-NotAResource.ensures.bytes

pub returns-in-ResourceTypeMismatch : goal.returns-in-ResourceTypeMismatch
returns-in-ResourceTypeMismatch c = rw c.in-ResourceTypeMismatch.is (pushed c.push_str.result (string_bytes c.args.text.now) (string_bytes c.push_str.new.self) (codes "ResourceTypeMismatch") c.push_str.ensures.bytes)

pub returns-in-StillLent : goal.returns-in-StillLent
returns-in-StillLent c = rw c.in-StillLent.is c.write-in-StillLent.ensures.bytes

pub returns-in-TooManyLends : goal.returns-in-TooManyLends
returns-in-TooManyLends c = rw c.in-TooManyLends.is c.write-in-TooManyLends.ensures.bytes

pub returns-in-HandleLimit : goal.returns-in-HandleLimit
returns-in-HandleLimit c = rw c.in-HandleLimit.is (pushed c.push_str-in-HandleLimit.result (string_bytes c.args.text.now) (string_bytes c.push_str-in-HandleLimit.new.self) (codes "HandleLimit") c.push_str-in-HandleLimit.ensures.bytes)

pub returns-in-IndexOverflow : goal.returns-in-IndexOverflow
returns-in-IndexOverflow c = rw c.in-IndexOverflow.is (pushed c.push_str-in-IndexOverflow.result (string_bytes c.args.text.now) (string_bytes c.push_str-in-IndexOverflow.new.self) (codes "IndexOverflow") c.push_str-in-IndexOverflow.ensures.bytes)

pub returns-in-BorrowAsOwn : goal.returns-in-BorrowAsOwn
returns-in-BorrowAsOwn c = rw c.in-BorrowAsOwn.is (pushed c.push_str-in-BorrowAsOwn.result (string_bytes c.args.text.now) (string_bytes c.push_str-in-BorrowAsOwn.new.self) (codes "BorrowAsOwn") c.push_str-in-BorrowAsOwn.ensures.bytes)

pub returns-in-HostConsumed : goal.returns-in-HostConsumed
returns-in-HostConsumed c = rw c.in-HostConsumed.is (pushed c.push_str-in-HostConsumed.result (string_bytes c.args.text.now) (string_bytes c.push_str-in-HostConsumed.new.self) (codes "HostConsumed") c.push_str-in-HostConsumed.ensures.bytes)

pub returns-in-HostDeallocated : goal.returns-in-HostDeallocated
returns-in-HostDeallocated c = rw c.in-HostDeallocated.is (pushed c.push_str-in-HostDeallocated.result (string_bytes c.args.text.now) (string_bytes c.push_str-in-HostDeallocated.new.self) (codes "HostDeallocated") c.push_str-in-HostDeallocated.ensures.bytes)

pub returns-in-GenerationExhausted : goal.returns-in-GenerationExhausted
returns-in-GenerationExhausted c = rw c.in-GenerationExhausted.is (pushed c.push_str-in-GenerationExhausted.result (string_bytes c.args.text.now) (string_bytes c.push_str-in-GenerationExhausted.new.self) (codes "GenerationExhausted") c.push_str-in-GenerationExhausted.ensures.bytes)

pub returns-in-BorrowsRemain : goal.returns-in-BorrowsRemain
returns-in-BorrowsRemain c = rw c.in-BorrowsRemain.is (pushed c.push_str-in-BorrowsRemain.result (string_bytes c.args.text.now) (string_bytes c.push_str-in-BorrowsRemain.new.self) (codes "BorrowsRemain") c.push_str-in-BorrowsRemain.ensures.bytes)

pub returns-in-NoScope : goal.returns-in-NoScope
returns-in-NoScope c = rw c.in-NoScope.is (pushed c.push_str-in-NoScope.result (string_bytes c.args.text.now) (string_bytes c.push_str-in-NoScope.new.self) (codes "NoScope") c.push_str-in-NoScope.ensures.bytes)

pub returns-in-OutOfMemory : goal.returns-in-OutOfMemory
returns-in-OutOfMemory c = rw c.in-OutOfMemory.is (pushed c.push_str-in-OutOfMemory.result (string_bytes c.args.text.now) (string_bytes c.push_str-in-OutOfMemory.new.self) (codes "OutOfMemory") c.push_str-in-OutOfMemory.ensures.bytes)
