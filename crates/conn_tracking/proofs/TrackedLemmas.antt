-- Connections on images, asked one after the other.
use Rattle.std.proofs.Common.{◌≡◌, ◌<◌, ◌+◌, ◌==◌, ◌&&◌, ◌||◌, Bool, List, true, false, ap, drop, get_or, length, refl, subst, sym, take, ◌∙◌, ℕ}
use Rattle.std.specs.List.{list_any}
use Rattle.vpc_base.proofs.Lemmas.{and-fails_early, list_any-map, list_any-take-drop, list_any_more, or_right}
use Rattle.vpc_base.specs.Terms.{opposite, reply_of, same_dir}
use Rattle.vpc_base.specs.declared.headers.Header.{Header}
use Rattle.header_boxes.specs.declared.boxes.Box5.{Box5}
use Rattle.header_boxes.proofs.Lemmas.{aligned_to_itself, holds_whole}
use Rattle.box_images.specs.Images.{IsValidImage, header_at}
use Rattle.box_images.specs.declared.images.Image.{Image}
use Rattle.box_images.specs.declared.images.Part.{Part}
use Rattle.box_images.proofs.Lemmas.{answers_follow, body_of_itself}
use Rattle.cut_laws.specs.Dividing.{DivideAddresses}
use Rattle.vpc_model.specs.Connections.{Connection, is_header, is_tracked}
use Rattle.vpc_model.specs.Types.{Dir}
use Rattle.vpc_model.specs.declared.numbers.EniNo.{EniNo}
use Rattle.conn_tracking.specs.OnImages.{TellsReply, TellsTracked, connection_at, connections_at}
use Rattle.conn_tracking.specs.declared.on_images.ImageEntry.{ImageEntry}

-- ---- one more entry

-- the header answers this connection
abbrev answers : EniNo → Dir → Header → Connection → Bool
answers eni dir g c = (c.eni.0 == eni.0) && (same_dir c.dir (opposite dir) && is_header g (reply_of c.header))

-- the first entries with one more
is_tracked-more : (entries : List ImageEntry) (k : ℕ) (d e : ImageEntry) (eni : EniNo) (dir : Dir) (h g : Header)
    → k < length entries → e ≡ get_or entries k d
    → is_tracked (connections_at h (take (k + 1) entries)) eni dir g
    ≡ (is_tracked (connections_at h (take k entries)) eni dir g || answers eni dir g (connection_at h e))
is_tracked-more entries k d e eni dir h g below at =
    let test = λ (x : ImageEntry). answers eni dir g (connection_at h x) in
    list_any-map (answers eni dir g) (connection_at h) (take (k + 1) entries)
    ∙ list_any_more test entries k d below
    ∙ ap (λ (x : ImageEntry). list_any test (take k entries) || test x) (sym at)
    ∙ ap (λ (b : Bool). b || test e) (sym (list_any-map (answers eni dir g) (connection_at h) (take k entries)))

-- one that is answered is among all entries
is_tracked-all : (entries : List ImageEntry) (k : ℕ) (eni : EniNo) (dir : Dir) (h g : Header)
    → is_tracked (connections_at h (take k entries)) eni dir g ≡ true → is_tracked (connections_at h entries) eni dir g ≡ true
is_tracked-all entries k eni dir h g e =
    let test = λ (x : ImageEntry). answers eni dir g (connection_at h x) in
    let here = sym (list_any-map (answers eni dir g) (connection_at h) (take k entries)) ∙ e in
    list_any-map (answers eni dir g) (connection_at h) entries
    ∙ list_any-take-drop test k entries
    ∙ ap (λ (b : Bool). b || list_any test (drop k entries)) here

-- an entry of this interface and direction is answered by its reply, and any other by nothing
reply-of-entry : (a b c : Bool) → (a && b) ≡ true → (a && (b && c)) ≡ c
reply-of-entry true true c e = refl
reply-of-entry true false c e = absurd cc
reply-of-entry false b c e = absurd cc

or-false : (a b : Bool) → b ≡ false → a ≡ (a || b)
or-false true b e = refl
or-false false b e = sym e

-- ---- what is told

-- without entries nothing is tracked
pub tells_nothing : (addresses : List ℕ) (entries : List ImageEntry) (eni : EniNo) (dir : Dir) (i : Image) → IsValidImage i
    → TellsTracked addresses (take 0 entries) eni dir i (record { body = i.part; told = false })
tells_nothing addresses entries eni dir i v = record {
  told = λ h t. refl;
  body = body_of_itself i.part v.part;
  aligned = λ cuts k. aligned_to_itself cuts i.part;
}

-- an entry of another interface or direction changes nothing
pub tells_after_other : (addresses : List ℕ) (entries : List ImageEntry) (k : ℕ) (d e : ImageEntry) (eni : EniNo) (dir : Dir) (i : Image) (body : Box5)
    → k < length entries → e ≡ get_or entries k d → ((e.eni.0 == eni.0) && same_dir e.dir (opposite dir)) ≡ false
    → TellsTracked addresses (take k entries) eni dir i (record { body = body; told = false })
    → TellsTracked addresses (take (k + 1) entries) eni dir i (record { body = body; told = false })
tells_after_other addresses entries k d e eni dir i body below at other before = record {
  told = λ h t.
      let g = header_at i h in
      let nothing = and-fails_early (e.eni.0 == eni.0) (same_dir e.dir (opposite dir)) (is_header g (reply_of (header_at e.header h))) other in
      before.told h t ∙ or-false _ (answers eni dir g (connection_at h e)) nothing ∙ sym (is_tracked-more entries k d e eni dir h g below at);
  body = before.body;
  aligned = before.aligned;
}

-- one that isn't answered leaves a lesser body
pub tells_after_no : (addresses : List ℕ) (entries : List ImageEntry) (k : ℕ) (d e : ImageEntry) (eni : EniNo) (dir : Dir) (i : Image) (body : Box5) (x : Part Bool)
    → k < length entries → e ≡ get_or entries k d → ((e.eni.0 == eni.0) && same_dir e.dir (opposite dir)) ≡ true
    → TellsTracked addresses (take k entries) eni dir i (record { body = body; told = false })
    → TellsReply addresses (record i { part = body }) (record e.header { part = body }) x → x.told ≡ false
    → TellsTracked addresses (take (k + 1) entries) eni dir i (record { body = x.body; told = false })
tells_after_no addresses entries k d e eni dir i body x below at of before reply isnt =
    answers_follow (DivideAddresses addresses) (λ h. is_tracked (connections_at h (take (k + 1) entries)) eni dir (header_at i h)) body i.part
    (record { body = x.body; told = false }) before.body before.aligned
    (record {
      told = λ h t.
          let g = header_at i h in
          let one = reply-of-entry (e.eni.0 == eni.0) (same_dir e.dir (opposite dir)) (is_header g (reply_of (header_at e.header h))) of in
          before.told h (holds_whole h x.body body reply.body.within t)
          ∙ or-false _ (answers eni dir g (connection_at h e)) (one ∙ sym (reply.told h t) ∙ isnt)
          ∙ sym (is_tracked-more entries k d e eni dir h g below at);
      body = reply.body;
      aligned = reply.aligned;
    })

-- one that is answered tells it
pub tells_of_yes : (addresses : List ℕ) (entries : List ImageEntry) (k : ℕ) (d e : ImageEntry) (eni : EniNo) (dir : Dir) (i : Image) (body : Box5) (x : Part Bool)
    → k < length entries → e ≡ get_or entries k d → ((e.eni.0 == eni.0) && same_dir e.dir (opposite dir)) ≡ true
    → TellsTracked addresses (take k entries) eni dir i (record { body = body; told = false })
    → TellsReply addresses (record i { part = body }) (record e.header { part = body }) x → x.told ≡ true
    → TellsTracked addresses entries eni dir i x
tells_of_yes addresses entries k d e eni dir i body x below at of before reply is =
    answers_follow (DivideAddresses addresses) (λ h. is_tracked (connections_at h entries) eni dir (header_at i h)) body i.part x before.body before.aligned
    (record {
      told = λ h t.
          let g = header_at i h in
          let one = reply-of-entry (e.eni.0 == eni.0) (same_dir e.dir (opposite dir)) (is_header g (reply_of (header_at e.header h))) of in
          is ∙ sym (is_tracked-all entries (k + 1) eni dir h g
          (is_tracked-more entries k d e eni dir h g below at ∙ or_right _ (answers eni dir g (connection_at h e)) (one ∙ sym (reply.told h t) ∙ is)));
      body = reply.body;
      aligned = reply.aligned;
    })

-- what is told of two images is told of what they are
pub tells_over : (addresses : List ℕ) (i j opened over : Image) (x : Part Bool) → i ≡ j → opened ≡ over
    → TellsReply addresses i opened x → TellsReply addresses j over x
tells_over addresses i j opened over x e f k =
    subst (λ (w : Image). TellsReply addresses w over x) e (subst (λ (w : Image). TellsReply addresses i w x) f k)
