use Rattle.std.proofs.Common.{subst}
use Rattle.canon_recording_parts.specs.Events.{IsWritten}
use Rattle.canon_recording_parts.proofs.Tagged.{ask_written, post_written, realloc_written, resume_written, return_written, start_written}
use Rattle.canon_recording_parts.proofs.write.put_tagged.Goals as goal

pub returns-in-Start : goal.returns-in-Start
returns-in-Start c = record { writes = start_written c.args.imports c.args.event.now c.in-Start.func c.in-Start.words c.in-Start.memory c.as_slice.result.now c.as_slice-in-Start.result.now c.args.bytes.now.items c.put_numbered.new.bytes.items c.put_numbered.result c.in-Start.is c.as_slice.ensures c.as_slice-in-Start.ensures c.put_numbered.ensures.writes }

pub returns-in-Ask : goal.returns-in-Ask
returns-in-Ask c = record { writes = ask_written c.args.imports c.args.event.now c.in-Ask.index c.in-Ask.words c.in-Ask.memory c.as_slice-in-Ask.result.now c.as_slice-in-Ask-2.result.now c.args.bytes.now.items c.put_numbered-in-Ask.new.bytes.items c.put_numbered-in-Ask.result c.in-Ask.is c.as_slice-in-Ask.ensures c.as_slice-in-Ask-2.ensures (subst (IsWritten c.args.imports) c.in-Ask.is c.requires.written) c.put_numbered-in-Ask.ensures.writes }

pub returns-in-Resume : goal.returns-in-Resume
returns-in-Resume c = record { writes = resume_written c.args.imports c.args.event.now c.in-Resume.words c.in-Resume.memory c.as_slice-in-Resume.result.now c.as_slice-in-Resume-2.result.now c.args.bytes.now.items c.put_words_and_memory.new.bytes.items c.put_words_and_memory.result c.in-Resume.is c.as_slice-in-Resume.ensures c.as_slice-in-Resume-2.ensures c.put_words_and_memory.ensures.writes }

pub returns-in-Return : goal.returns-in-Return
returns-in-Return c = record { writes = return_written c.args.imports c.args.event.now c.in-Return.words c.in-Return.memory c.as_slice-in-Return.result.now c.as_slice-in-Return-2.result.now c.args.bytes.now.items c.put_words_and_memory-in-Return.new.bytes.items c.put_words_and_memory-in-Return.result c.in-Return.is c.as_slice-in-Return.ensures c.as_slice-in-Return-2.ensures c.put_words_and_memory-in-Return.ensures.writes }

pub returns-in-Realloc : goal.returns-in-Realloc
returns-in-Realloc c = record { writes = realloc_written c.args.imports c.args.event.now c.in-Realloc.old c.in-Realloc.old_size c.in-Realloc.align c.in-Realloc.new_size c.in-Realloc.answer c.args.bytes.now.items c.put_request.new.bytes.items c.put_request.result c.in-Realloc.is c.put_request.ensures.writes }

pub returns-in-Post : goal.returns-in-Post
returns-in-Post c = record { writes = post_written c.args.imports c.args.event.now c.in-Post.func c.in-Post.words c.as_slice-in-Post.result.now c.args.bytes.now.items c.put_post.new.bytes.items c.put_post.result c.in-Post.is c.as_slice-in-Post.ensures c.put_post.ensures.writes }
