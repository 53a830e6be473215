-- How the first reason against the words of a query or packet is printed: its name and its argument.
use Rattle.std.specs.Prelude.{◌++◌, List, codes, decimal, ℕ}
use Rattle.query_words.specs.declared.refusal.QueryRefusal.{QueryRefusal}
use Rattle.query_words.specs.declared.refusal.QueryRefusal.TheVariants as refusals
use Rattle.block_report.specs.Words.{word}

-- a refusal with its argument; want of memory has a line of its own
abbrev pub query_refusal_text : QueryRefusal → List ℕ
query_refusal_text (refusals.BadWord n) = codes "BadWord" ++ word (decimal n)
query_refusal_text (refusals.UnknownId n) = codes "UnknownId" ++ word (decimal n)
query_refusal_text (refusals.NotAnEnd id) = codes "NotAnEnd" ++ word id
query_refusal_text (refusals.NotAStart n) = codes "NotAStart" ++ word (decimal n)
query_refusal_text refusals.BothInternet = codes "BothInternet"
query_refusal_text (refusals.EmptyRange n) = codes "EmptyRange" ++ word (decimal n)
query_refusal_text refusals.MaxOutOfRange = codes "MaxOutOfRange"
query_refusal_text (refusals.NoAddress id) = codes "NoAddress" ++ word id
query_refusal_text refusals.Memory = codes "want of memory"
