-- How a struct `Task` is read as the law's.
use Rattle.law.specs.Table as law
use Rattle.table.specs.declared.Task.{Task}

abbrev pub task_said : Task → law.Task
task_said r = record { id = r.id; c = r.c; t = r.t; d = r.d; m = r.m; k = r.k; p = r.p }
