-- What edges answer for all headers of a body.
use Rattle.std.proofs.Common.{◌≡◌, ◌∙◌, ◌+◌, ℕ, Bool, List, Option, ap, arith, false, is_some, option_map, refl, sym, true}
use Rattle.vpc_base.specs.Cuts.{AreAmong, CutLists}
use Rattle.vpc_laws.specs.Types.{Box5, Description, Header, VpcNo}
use Rattle.vpc_base.proofs.Options.{is_some-option_map}
use Rattle.header_boxes.specs.Boxes.{IsValid}
use Rattle.box_images.proofs.Reducing.{reduced_all, reduced_by, reduced_nothing}
use Rattle.box_images.specs.Answers.{Answers}
use Rattle.box_images.specs.Fields.{number_of}
use Rattle.box_images.specs.Images.{header_at}
use Rattle.box_images.specs.declared.fields.Side.{Side}
use Rattle.box_images.specs.declared.images.Image.{Image}
use Rattle.box_images.specs.declared.images.Part.{Part}
use Rattle.cut_laws.specs.Dividing.{CutOut, DivideTurns}
use Rattle.image_tests.proofs.Answering.{answers_more, answers_same}
use Rattle.vpc_model.specs.Cuts.{standing_cuts}
use Rattle.number_tables.specs.Entries.{value_at}
use Rattle.number_tables.specs.Keys.{key_of}
use Rattle.number_tables.specs.declared.tables.Entry.{Entry}
use Rattle.edge_gateways.specs.declared.pairs.Owner.{Owner}
use Rattle.edge_gateways.specs.declared.peerings.Carry.{Carry}
use Rattle.edge_gateways.specs.declared.peerings.Carry.TheVariants as carries
use Rattle.edge_gateways.specs.Carry.{carry_if}
use Rattle.edge_gateways.specs.Pairs.{owner_at}

-- ---- what a peering carries

pub answers_bad_source : (enough : CutLists → Type 0) (f g : Header → Bool) (part : Box5) (x : Part Bool) → IsValid part → x.told ≡ false
    → Answers enough f part x → Answers enough (λ h. carry_if (f h) (g h)) part (record { body = x.body; told = carries.BadSource })
answers_bad_source enough f g part x valid e k =
    let whole : Header → Carry = λ h. carry_if (f h) (g h) in
    reduced_all enough whole (λ h. carries.BadSource) part x.body carries.BadSource (λ h i. refl)
    (reduced_by enough whole whole (λ h. carries.BadSource) part part f x false e (λ h t. ap (λ b. carry_if b (g h)) t) (reduced_nothing enough whole part valid) k)

pub answers_by_destination : (enough : CutLists → Type 0) (f g : Header → Bool) (part : Box5) (x y : Part Bool) (v : Bool) → IsValid part → x.told ≡ true → y.told ≡ v
    → Answers enough f part x → Answers enough g x.body y → Answers enough (λ h. carry_if (f h) (g h)) part (record { body = y.body; told = carry_if true v })
answers_by_destination enough f g part x y v valid e d k l =
    let whole : Header → Carry = λ h. carry_if (f h) (g h) in
    reduced_all enough whole (λ h. carry_if true v) part y.body (carry_if true v) (λ h i. refl)
    (reduced_by enough whole (λ h. carry_if true (g h)) (λ h. carry_if true v) part x.body g y v d (λ h t. ap (λ b. carry_if true b) t)
    (reduced_by enough whole whole (λ h. carry_if true (g h)) part part f x true e (λ h t. ap (λ b. carry_if b (g h)) t) (reduced_nothing enough whole part valid) k) l)

-- ---- owners, whose keys have no high half

low-key : (a : ℕ) → key_of 0 a ≡ a
low-key a = omega arith

pub owner-answers : (owners : List (Entry Owner)) (i : Image) (x : Part (Option Owner)) (told : Option (VpcNo × ℕ)) → told ≡ option_map (λ o. (o.vpc, o.own)) x.told
    → Answers (CutOut (λ a. is_some (value_at (key_of 0 a) owners))) (λ h. value_at (key_of 0 (header_at i h).dst) owners) i.part x
    → Answers (CutOut (λ a. is_some (owner_at owners a))) (λ h. owner_at owners (header_at i h).dst) i.part (record { body = x.body; told = told })
owner-answers owners i x told is k = record {
  told = λ h t. is ∙ ap (option_map (λ (o : Owner). (o.vpc, o.own))) (k.told h t ∙ ap (λ n. value_at n owners) (low-key (header_at i h).dst));
  body = k.body;
  aligned = λ cuts divide. k.aligned cuts (λ a fits some. divide a fits
      (is_some-option_map (λ (o : Owner). (o.vpc, o.own)) (value_at a owners) ∙ ap (λ n. is_some (value_at n owners)) (sym (low-key a)) ∙ some));
}

-- ---- blocks of VPCs and networks

-- a test of addresses that turns at standing cuts alone, in other words
pub answers_standing : (d : Description) (f g : ℕ → Bool) (i : Image) (s : Side) (x : Part Bool) → DivideTurns f (standing_cuts d) → ((a : ℕ) → f a ≡ g a)
    → Answers (DivideTurns f) (λ h. f (number_of (header_at i h) s)) i.part x → Answers (AreAmong (standing_cuts d)) (λ h. g (number_of (header_at i h) s)) i.part x
answers_standing d f g i s x turns same k =
    answers_same (AreAmong (standing_cuts d)) (λ h. f (number_of (header_at i h) s)) (λ h. g (number_of (header_at i h) s)) i.part x (λ h. same (number_of (header_at i h) s))
    (answers_more (DivideTurns f) (AreAmong (standing_cuts d)) (λ h. f (number_of (header_at i h) s)) i.part x (λ cuts among a fits turn. among.addr (a + 1) (turns a fits turn)) k)
