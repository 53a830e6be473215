-- What the rows of PrefixLists (EC2 API, DescribePrefixLists) and of PrefixListEntries mean. The latter are this
-- project's wrapping of what GetManagedPrefixListEntries prints.
use Rattle.std.specs.Prelude.{ℕ, ◌==◌, ◌++◌, Bool, List, Option, Some, None, Result, Ok, codes, if◌then◌else◌}
use Rattle.std.specs.List.{list_any}
use Rattle.serde_json.specs.Data.{Data}
use Rattle.serde_json.specs.Find.{as_str}
use Rattle.json_fields.specs.FieldFault.{and_then, in_grammar, in_shape}
use Rattle.json_fields.specs.Fields.{id_of, member_of, needed, text_of}
use Rattle.json_fields.specs.Kept.{each_kept_item, each_kept_of, each_of, first_of_each}
use Rattle.json_fields.specs.Paths.{at_member}
use Rattle.json_fields.specs.declared.fault.FieldFault.{FieldFault}
use Rattle.prefix_text.specs.Block.{Block, prefix_of}
use Rattle.vpc_model.specs.declared.rows.PrefixList.{PrefixList}

-- the text is of IPv6
abbrev pub has_colon : List ℕ → Bool
has_colon text = list_any (λ c. c == 58) text

-- the block that the text at the path writes, and nothing for a text of IPv6
abbrev pub block_in : List ℕ → List ℕ → Result (Option Block) FieldFault
block_in path text = if has_colon text then Ok None else and_then (in_grammar path (prefix_of text)) (λ block. Ok (Some block))

-- an element of Cidrs, which is a text
abbrev pub cidr_of : Data → List ℕ → Result (Option Block) FieldFault
cidr_of value path = and_then (in_shape path (as_str value)) (block_in path)

-- an element of Entries, which has a text
abbrev pub entry_of : Data → List ℕ → Result (Option Block) FieldFault
entry_of row path = and_then (needed text_of row path (codes "Cidr")) (block_in (at_member path (codes "Cidr")))

-- a list with the id, where its entries are told
abbrev pub list_if : Option Data → Data → List ℕ → List ℕ → Result (Option PrefixList) FieldFault
list_if None row path id = Ok None
list_if (Some cidrs) row path id = and_then (each_kept_item cidr_of row path (codes "Cidrs")) (λ entries. Ok (Some (record { id = id; entries = entries })))

-- a row of PrefixLists; one without Cidrs is dropped
abbrev pub prefix_list_of : Data → List ℕ → Result (Option PrefixList) FieldFault
prefix_list_of row path = and_then (id_of row path (codes "PrefixListId")) (list_if (member_of row (codes "Cidrs")) row path)

-- a row of PrefixListEntries
abbrev pub listed_entries_of : Data → List ℕ → Result PrefixList FieldFault
listed_entries_of row path =
    and_then (id_of row path (codes "PrefixListId")) (λ id.
    and_then (each_kept_item entry_of row path (codes "Entries")) (λ entries.
    Ok (record { id = id; entries = entries })))

-- the prefix lists of both lists; of those that have one id, the first
abbrev pub prefix_lists_of : Data → Result (List PrefixList) FieldFault
prefix_lists_of bundle =
    and_then (each_kept_of prefix_list_of bundle (codes "PrefixLists")) (λ lists.
    and_then (each_of listed_entries_of bundle (codes "PrefixListEntries")) (λ others.
    Ok (first_of_each (λ row. row.id) (lists ++ others))))
