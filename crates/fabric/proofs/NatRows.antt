-- NAT gateways by their interfaces.
use Rattle.std.proofs.Common.{◌≡◌, ◌∙◌, ◌++◌, ◌+◌, ◌<◌, ◌^◌, ◌==◌, ◌&&◌, ◌∷◌, [], ℕ, Bool, Contains, List, Option, Some, ap, arith, bytes_eq, cond, false, find, get_or, inl, inr, length, option_map, refl, sym, true}
use Rattle.std.specs.List.{position_from}
use Rattle.std.proofs.lemmas.Bool.{and_parts, both_ways, cases_Bool, eq-eqb, ne_eqb}
use Rattle.std.proofs.lemmas.Iterator.Adapters.{position_from-zero}
use Rattle.vpc_base.proofs.Bytes.{bytes_self, same_bytes}
use Rattle.vpc_base.proofs.Members.{Contains-here, Contains-later}
use Rattle.number_tables.specs.Entries.{value_at}
use Rattle.number_tables.specs.declared.tables.Entry.{Entry}
use Rattle.vpc_laws.proofs.Accepting.{accepted_has_all_named}
use Rattle.vpc_laws.proofs.Lengths.{accepted_has_short_lists}
use Rattle.vpc_laws.proofs.Numbering.{accepted_numbers_are_own, ids_are_found}
use Rattle.vpc_laws.specs.Types.{Description, EniNo, NatGateway, NatNo}
use Rattle.vpc_model.specs.Accepted.{IsAccepted}
use Rattle.vpc_model.specs.Lookup.{eni_no, has_interface, interface_at, is_assigned, no_interface}
use Rattle.vpc_model.specs.Sound.{is_eni}
use Rattle.vpc_model.specs.Step.Crossing.{is_eni_of}
use Rattle.vpc_model.specs.declared.rows.NatLife.{NatLife}
use Rattle.vpc_model.specs.declared.rows.NatLife.TheVariants as lives
use Rattle.fabric.specs.Nats.{AreNats, life_entry, nat_entries}

-- a described id is that of an interface exactly where its number is the interface's
eni-same : (d : Description) (i : EniNo) (id : List ℕ) → IsAccepted d → is_eni d i ≡ true → has_interface d id ≡ true → bytes_eq id (interface_at d i).id ≡ ((eni_no d id).0 == i.0)
eni-same d i id accepted lies has =
    let own : eni_no d (interface_at d i).id ≡ i = (accepted_numbers_are_own d accepted).interface i lies in
    elim (cases_Bool (bytes_eq id (interface_at d i).id)) [
      | inl same ↦
          let is = same_bytes id (interface_at d i).id same in
          same ∙ sym (eq-eqb (eni_no d id).0 i.0 (ap (λ (x : List ℕ). (eni_no d x).0) is ∙ ap (λ (n : EniNo). n.0) own))
      | inr other ↦
          other
          ∙ sym
          (ne_eqb (eni_no d id).0 i.0
          (λ numbers.
          let found : (interface_at d (eni_no d id)).id ≡ id = ((ids_are_found d).interface id has).1 in
          let is : id ≡ (interface_at d i).id = sym found ∙ ap (λ (n : ℕ). (get_or d.interfaces n no_interface).id) numbers in
          both_ways (bytes_eq id (interface_at d i).id) other (sym (ap (bytes_eq id) is) ∙ bytes_self id)))
    ]

abbrev numbered : ℕ → NatNo
numbered k = record { 0 = k }

-- one more gateway
life-step : (d : Description) (i : EniNo) (k : ℕ) (life : NatLife) (rest : List (Entry NatNo)) (o : Option ℕ) → IsAccepted d → is_eni d i ≡ true
    → ((subnet eni : List ℕ) (address : ℕ) → life ≡ lives.Live subnet eni address → has_interface d eni ≡ true)
    → value_at i.0 rest ≡ option_map numbered o
    → value_at i.0 (life_entry d k life ++ rest) ≡ option_map numbered (cond (is_eni_of (interface_at d i).id life) (Some k) o)
life-step d i k lives.Gone rest o accepted lies has told = told
life-step d i k lives.Unmodelled rest o accepted lies has told = told
life-step d i k (lives.Live subnet eni address) rest o accepted lies has told =
    let e : Entry NatNo = record { key = (eni_no d eni).0; value = numbered k } in
    ap (λ b. option_map (λ (x : Entry NatNo). x.value) (cond b (Some e) (find (λ x. x.key == i.0) rest))) (sym (eni-same d i eni accepted lies (has subnet eni address refl)))
    ∙ by (bytes_eq eni (interface_at d i).id)
  where
    by : (b : Bool) → option_map (λ (x : Entry NatNo). x.value) (cond b (Some (record { key = (eni_no d eni).0; value = numbered k })) (find (λ x. x.key == i.0) rest)) ≡ option_map numbered (cond b (Some k) o)
    by true = refl
    by false = told

-- the interface of a live gateway is described
pub nat-interface : (d : Description) (n : NatGateway) (subnet eni : List ℕ) (address : ℕ) → IsAccepted d → Contains d.nats n → n.life ≡ lives.Live subnet eni address → has_interface d eni ≡ true
nat-interface d n subnet eni address accepted listed is =
    let e = interface_at d (eni_no d eni) in
    let place = (accepted_has_all_named d accepted).place_of_nat n subnet eni address listed is in
    (and_parts (has_interface d eni) (bytes_eq e.subnet subnet && is_assigned e address) place.1).0

nat_entries-found : (d : Description) (i : EniNo) → IsAccepted d → is_eni d i ≡ true → (k : ℕ) (rows : List NatGateway) → ((n : NatGateway) → Contains rows n → Contains d.nats n)
    → value_at i.0 (nat_entries d k rows) ≡ option_map numbered (position_from (λ n. is_eni_of (interface_at d i).id n.life) k rows)
nat_entries-found d i accepted lies k [] within = refl
nat_entries-found d i accepted lies k (n ∷ rows) within =
    life-step d i k n.life (nat_entries d (k + 1) rows) (position_from (λ n. is_eni_of (interface_at d i).id n.life) (k + 1) rows) accepted lies
    (λ subnet eni address is. nat-interface d n subnet eni address accepted (within n (Contains-here n rows)) is)
    (nat_entries-found d i accepted lies (k + 1) rows (λ x h. within x (Contains-later n rows x h)))

-- the table tells the gateway of each interface
pub are_nats : (d : Description) (table : List (Entry NatNo)) → IsAccepted d → ((k : ℕ) → value_at k table ≡ value_at k (nat_entries d 0 d.nats)) → AreNats d table
are_nats d table accepted values = λ i lies.
    values i.0 ∙ nat_entries-found d i accepted lies 0 d.nats (λ n h. h) ∙ ap (option_map numbered) (sym (position_from-zero (λ n. is_eni_of (interface_at d i).id n.life) d.nats))

-- an accepted description has few
pub few-nats : (d : Description) (nats : List NatGateway) (k : ℕ) → IsAccepted d → nats ≡ d.nats → k < length nats → k < 2 ^ 32
few-nats d nats k accepted same within =
    let lists = accepted_has_short_lists d accepted in
    let short = lists.nats in
    let e = ap length same in
    omega arith
