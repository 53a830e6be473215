use Rattle.std.proofs.Common.{map, refl, string_bytes}
use Rattle.vpc_commands.specs.Due as due
use Rattle.vpc_commands.specs.Due.{memory_text}
use Rattle.command_job.specs.declared.status.Status.TheVariants as ends
use Rattle.vpc_commands.proofs.PutLemmas.{complete_if_put, due_if_put, read_if_put, rose_if_put}
use Rattle.vpc_commands.proofs.commands.run.Goals as goal

pub returns-in-Ok-clause-due : goal.returns-in-Ok-clause-due
returns-in-Ok-clause-due g c =
    due_if_put (map string_bytes c.args.words.now) _ _ c.in-Ok.answer.status c.in-Ok.answer.text.items _ _ _ c.put_answer.result c.in-Ok.ensures (rw c.as_slice.ensures.value at c.put_answer.ensures)

pub returns-in-Ok-clause-complete : goal.returns-in-Ok-clause-complete
returns-in-Ok-clause-complete g c =
    complete_if_put (map string_bytes c.args.words.now) _ _ c.in-Ok.answer.status c.in-Ok.answer.text.items _ _ _ c.put_answer.result c.in-Ok.ensures (rw c.as_slice.ensures.value at c.put_answer.ensures)

pub returns-in-Ok-clause-read_only_where_faults_rose : goal.returns-in-Ok-clause-read_only_where_faults_rose
returns-in-Ok-clause-read_only_where_faults_rose g c =
    read_if_put (map string_bytes c.args.words.now) _ _ c.in-Ok.answer.status c.in-Ok.answer.text.items _ _ _ c.put_answer.result c.in-Ok.ensures (rw c.as_slice.ensures.value at c.put_answer.ensures)

pub returns-in-Ok-clause-write_only_where_faults_rose : goal.returns-in-Ok-clause-write_only_where_faults_rose
returns-in-Ok-clause-write_only_where_faults_rose g c =
    rose_if_put (map string_bytes c.args.words.now) _ _ c.in-Ok.answer.status c.in-Ok.answer.text.items _ _ _ c.put_answer.result c.in-Ok.ensures (rw c.as_slice.ensures.value at c.put_answer.ensures)

pub returns-in-Err-clause-due : goal.returns-in-Err-clause-due
returns-in-Err-clause-due g c =
    due_if_put (map string_bytes c.args.words.now) _ _ ends.Memory memory_text _ _ _ c.refuse_memory.result (due.no_memory refl refl) c.refuse_memory.ensures
