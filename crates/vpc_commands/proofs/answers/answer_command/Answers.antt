use Rattle.vpc_commands.proofs.answers.answer_command.Goals as goal

pub returns-in-Trace : goal.returns-in-Trace
returns-in-Trace g c = rw c.in-Trace.is c.answer_file.ensures

pub returns-in-Why : goal.returns-in-Why
returns-in-Why g c = rw c.in-Why.is c.answer_file-in-Why.ensures

pub returns-in-Ask : goal.returns-in-Ask
returns-in-Ask g c = rw c.in-Ask.is c.answer_file-in-Ask.ensures

pub returns-in-Check : goal.returns-in-Check
returns-in-Check g c = rw c.in-Check.is c.answer_files.ensures

pub returns-in-CheckDiff : goal.returns-in-CheckDiff
returns-in-CheckDiff g c = rw c.in-CheckDiff.is c.answer_change.ensures

pub returns-in-Replay : goal.returns-in-Replay
returns-in-Replay g c = rw c.in-Replay.is c.answer_files-in-Replay.ensures

pub returns-in-Expect : goal.returns-in-Expect
returns-in-Expect g c = rw c.in-Expect.is c.answer_files-in-Expect.ensures

pub returns-in-Flows : goal.returns-in-Flows
returns-in-Flows g c = rw c.in-Flows.is c.answer_files-in-Flows.ensures

pub returns-in-Matrix : goal.returns-in-Matrix
returns-in-Matrix g c = rw c.in-Matrix.is c.answer_file-in-Matrix.ensures

pub returns-in-Reach : goal.returns-in-Reach
returns-in-Reach g c = rw c.in-Reach.is c.answer_file-in-Reach.ensures

pub returns-in-Diff : goal.returns-in-Diff
returns-in-Diff g c = rw c.in-Diff.is c.answer_networks.ensures

pub returns-in-Unused : goal.returns-in-Unused
returns-in-Unused g c = rw c.in-Unused.is c.answer_file-in-Unused.ensures

pub returns-in-Make : goal.returns-in-Make
returns-in-Make g c = rw c.in-Make.is c.make.ensures
