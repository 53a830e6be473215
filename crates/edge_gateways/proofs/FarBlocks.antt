-- The blocks of networks that aren't described, and where they turn.
use Rattle.std.proofs.Common.{◌≡◌, ◌∙◌, [], Bool, List, None, Option, Some, ap, cond, false, flat_map, length, refl, subst, sym, true, ℕ, ◌++◌, ◌+◌, bytes_eq, not}
use Rattle.std.specs.List.{AllZip}
use Rattle.address_sets.specs.declared.sets.Run.{Run}
use Rattle.prefix_text.specs.Block.{Block}
use Rattle.vpc_base.specs.Cuts.{AreAmong, CutLists}
use Rattle.vpc_base.proofs.Lemmas.{flat_map-append, get_or_past, list_any-position, ltb-false, ltb-true, row-member, zip_at}
use Rattle.cut_laws.proofs.Among.{Within, left_within, none_within, right_within}
use Rattle.cut_laws.proofs.Lemmas.{among_through, blocks-divide, fars_are_standing, on_sides_among}
use Rattle.cut_laws.specs.Dividing.{DivideTurns}
use Rattle.vpc_model.specs.Cuts.{block_cuts, blocks_of_far, cuts_of_blocks, cuts_of_far, on_sides, standing_cuts}
use Rattle.vpc_model.specs.Far.{blocks_beyond, blocks_of_other, is_within, peering_to}
use Rattle.vpc_model.specs.Lookup.{far_at, has_peering, has_vpc, no_far, no_peering, peer_no, peering_at}
use Rattle.vpc_model.specs.Sound.{is_far}
use Rattle.vpc_model.specs.declared.rows.FarKind.TheVariants as kinds
use Rattle.vpc_laws.specs.Types.{Description, Far, FarKind, FarNo, Peering}
use Rattle.edge_gateways.specs.FarBlocks.{HasBlocksBeyond, has_beyond}

-- the blocks of a network
pub has_beyond-is : (d : Description) (sets : List (List Run)) (k : FarNo) (a : ℕ) → AllZip (HasBlocksBeyond d) d.fars sets → is_far d k ≡ true → has_beyond sets k a ≡ is_within (blocks_beyond d (far_at d k)) a
has_beyond-is d sets k a zip lies = zip_at (HasBlocksBeyond d) d.fars sets k.0 no_far [] zip (ltb-true k.0 (length d.fars) lies) a

-- a peering that isn't described joins no VPCs
pub no_pair : (d : Description) (id : List ℕ) → has_peering d id ≡ false → (peering_at d (peer_no d id)).pair ≡ None
no_pair d id none =
    let n : ℕ = (peer_no d id).0 in
    let past = ltb-false n (length d.peerings) (sym (list_any-position (λ (x : Peering). bytes_eq x.id id) d.peerings) ∙ none) in
    ap (λ (x : Peering). x.pair) (get_or_past d.peerings n no_peering past)

-- ---- cuts

blocks_among : (a b : List ℕ) → Within a b → AreAmong (cuts_of_blocks a) (cuts_of_blocks b)
blocks_among a b within = record { proto = λ c k. k; addr = within; p = λ c k. k; q = λ c k. k }

-- the cuts of the blocks of one side are among those of both
one_side : (d : Description) (pair : Option (List ℕ × List ℕ)) (requester accepter : List Block)
    → Within (flat_map block_cuts (blocks_of_other d pair requester accepter)) (flat_map block_cuts (requester ++ accepter))
one_side d None requester accepter = none_within (flat_map block_cuts (requester ++ accepter))
one_side d (Some pair) requester accepter = by (has_vpc d pair.0)
  where
    first : List ℕ
    first = flat_map block_cuts requester

    second : List ℕ
    second = flat_map block_cuts accepter

    by : (b : Bool) → Within (flat_map block_cuts (cond b accepter requester)) (flat_map block_cuts (requester ++ accepter))
    by true = subst (Within second) (sym (flat_map-append block_cuts requester accepter)) (right_within first second)
    by false = subst (Within first) (sym (flat_map-append block_cuts requester accepter)) (left_within first second)

-- so the blocks of a network cut among those of its row
beyond_among : (d : Description) (f : Far) → AreAmong (cuts_of_blocks (flat_map block_cuts (blocks_beyond d f))) (cuts_of_far f)
beyond_among d f = by (peering_at d (peering_to d f)) f.kind
  where
    by : (x : Peering) (kind : FarKind)
        → AreAmong
        (cuts_of_blocks (flat_map block_cuts
        (elim kind [
          | kinds.PrivateGateway vpc ↦ []
          | kinds.Attachment vpc ↦ []
          | kinds.Peering requester accepter ↦ blocks_of_other d x.pair requester accepter
          | kinds.Endpoint vpc ↦ []
        ])))
        (cuts_of_blocks (flat_map block_cuts (blocks_of_far kind)))
    by x (kinds.PrivateGateway vpc) = blocks_among [] [] (none_within [])
    by x (kinds.Attachment vpc) = blocks_among [] [] (none_within [])
    by x (kinds.Peering requester accepter) = blocks_among _ _ (one_side d x.pair requester accepter)
    by x (kinds.Endpoint vpc) = blocks_among [] [] (none_within [])

-- where the blocks of a network turn, there is a standing cut
pub far-divides : (d : Description) (sets : List (List Run)) (k : FarNo) → AllZip (HasBlocksBeyond d) d.fars sets → is_far d k ≡ true → DivideTurns (has_beyond sets k) (standing_cuts d)
far-divides d sets k zip lies a fits turn =
    let f = far_at d k in
    let own : CutLists = cuts_of_blocks (flat_map block_cuts (blocks_beyond d f)) in
    let same : (b : ℕ) → has_beyond sets k b ≡ is_within (blocks_beyond d f) b = λ b. has_beyond-is d sets k b zip lies in
    let member = row-member d.fars k.0 no_far lies in
    let divide = among_through (on_sides own) (on_sides (cuts_of_far f)) (standing_cuts d) (on_sides_among own (cuts_of_far f) (beyond_among d f)) (fars_are_standing d f member) in
    blocks-divide (blocks_beyond d f) own (standing_cuts d) refl divide a fits (sym (same (a + 1)) ∙ turn ∙ ap not (same a))
