-- What the rows of Reservations mean (EC2 API, DescribeInstances): interfaces of instances that don't run are idle.
use Rattle.std.specs.Prelude.{ℕ, ◌≡◌, ◌||◌, Bool, true, List, [], Option, Some, None, Result, Ok, bytes_eq, codes, if◌then◌else◌, map, position}
use Rattle.std.specs.List.{flat_map}
use Rattle.serde_json.specs.Data.{Data}
use Rattle.json_fields.specs.FieldFault.{and_then}
use Rattle.json_fields.specs.Fields.{id_of, text_of, within_part}
use Rattle.json_fields.specs.Kept.{each_item, each_of}
use Rattle.json_fields.specs.declared.fault.FieldFault.{FieldFault}
use Rattle.reference_check.specs.FirstNumbers.{number_in}
use Rattle.vpc_model.specs.Lookup.{is_listed}
use Rattle.vpc_model.specs.declared.rows.Interface.{Interface}

-- an instance in this state sends and receives packets, as one does of which no state is told (profile)
abbrev pub is_running : Option (List ℕ) → Bool
is_running None = true
is_running (Some state) = bytes_eq state (codes "pending") || bytes_eq state (codes "running")

-- an interface of an instance
abbrev pub interface_of : Data → List ℕ → Result (List ℕ) FieldFault
interface_of row path = id_of row path (codes "NetworkInterfaceId")

-- the interfaces of an instance that doesn't run
abbrev pub stopped_by : Data → List ℕ → Result (List (List ℕ)) FieldFault
stopped_by row path =
    and_then (id_of row path (codes "InstanceId")) (λ id.
    and_then (within_part text_of row path (codes "State") (codes "Name")) (λ state.
    and_then (each_item interface_of row path (codes "NetworkInterfaces")) (λ interfaces.
    Ok (if is_running state then [] else interfaces))))

-- those of each instance of a reservation
abbrev pub stopped_in : Data → List ℕ → Result (List (List (List ℕ))) FieldFault
stopped_in row path = each_item stopped_by row path (codes "Instances")

-- those of all reservations
abbrev pub all_stopped : List (List (List (List ℕ))) → List (List ℕ)
all_stopped reservations = flat_map (flat_map (λ interfaces. interfaces)) reservations

abbrev pub stopped_of : Data → Result (List (List ℕ)) FieldFault
stopped_of bundle = and_then (each_of stopped_in bundle (codes "Reservations")) (λ reservations. Ok (all_stopped reservations))

-- the interface, idle where an instance that doesn't run has it
abbrev pub idle_by : List (List ℕ) → Interface → Interface
idle_by stopped e = record e { idle = e.idle || is_listed e.id stopped }

-- these numbers are the places of the ids
abbrev pub AreNumbersOf : List (List ℕ × ℕ) → List (List ℕ) → Type 0
AreNumbersOf numbers ids = (id : List ℕ) → number_in numbers id ≡ position (λ i. bytes_eq i id) ids

-- the interfaces with what the bundle tells of their instances, or the first fault
abbrev pub instances_of : Data → List Interface → Result (List Interface) FieldFault
instances_of bundle interfaces = and_then (stopped_of bundle) (λ stopped. Ok (map (idle_by stopped) interfaces))
