-- What a brick replies by its history, and to what.
use Rattle.std.proofs.Common.{◌≡◌, ℕ, Bool, true, false, if◌then◌else◌, List, [], ◌∷◌, ◌++◌, length, Option, Some, None, refl, sym, ap, ◌∙◌}
use Rattle.crash_base.specs.declared.numbers.BrickNo.{BrickNo}
use Rattle.crash_base.specs.declared.numbers.Moment.{Moment}
use Rattle.crash_base.specs.declared.numbers.SessionKey.{SessionKey}
use Rattle.crash_base.specs.declared.numbers.Version.{Version}
use Rattle.ssm_frames.specs.declared.frame.Frame.{Frame}
use Rattle.ssm_frames.specs.declared.frame.Frame.TheVariants.{Put, Get, Sweep, Stored, Found, Absent, BrickFull, Swept}
use Rattle.ssm_frames.specs.Requests.{is_request}
use Rattle.brick_store.specs.declared.kept.Kept.{Kept}
use Rattle.brick_store.specs.declared.event.BrickEvent.{BrickEvent}
use Rattle.brick_store.specs.declared.event.BrickEvent.TheVariants as happened
use Rattle.brick_store.specs.Bricks.{put_value, get_reply, reply}
use Rattle.brick_store.specs.History.{all_held, held, incarnation_after, swept_after}
use Rattle.brick_store.specs.Kept.{is_full, kept_under, bytes_of}
use Rattle.brick_store.specs.Standing.{heard}
use Rattle.brick_store.proofs.Standing.{all_found}
use Rattle.ssm_world.specs.Facts.{frame_nonce}
use Rattle.ssm_world.specs.Worlds.{brick_after}

-- the reply to a Put, by whether there is no room for it
abbrev put_answer : BrickNo → List BrickEvent → Version → SessionKey → Version → Bool → Option Frame
put_answer brick h n k v full =
    Some (if full then BrickFull n k v brick (incarnation_after 1 h) (length (all_held h)) (bytes_of (all_held h)) else Stored n k v brick (incarnation_after 1 h))

-- the reply to a Get, by what is kept
abbrev get_answer : BrickNo → List BrickEvent → Version → SessionKey → Version → Option Kept → Option Frame
get_answer brick h n k v kept = Some (get_reply brick (incarnation_after 1 h) (swept_after h) n k v kept)

-- a Stored answers a Put of its nonce, key and version, which was stored
pub record StoredFor (h : List BrickEvent) (request : Frame) (n : Version) (k : SessionKey) (v : Version) (i : ℕ) : Type 0 where
  pub expiry : Moment
  pub value : List ℕ
  pub request_is : request ≡ Put n k v expiry value
  pub heard_is : heard h request ≡ happened.Stored (put_value k v expiry value) ∷ h
  pub incarnation_is : incarnation_after 1 h ≡ i

pub stored_for : (brick b : BrickNo) (h : List BrickEvent) (request : Frame) (n : Version) (k : SessionKey) (v : Version) (i : ℕ) → reply (brick_after brick h) request ≡ Some (Stored n k v b i) → StoredFor h request n k v i
stored_for brick b h (Put m l u d x) n k v i is = go (is_full (all_held h) (put_value l u d x)) refl is
  where
    go : (full : Bool) → is_full (all_held h) (put_value l u d x) ≡ full → put_answer brick h m l u full ≡ Some (Stored n k v b i) → StoredFor h (Put m l u d x) n k v i
    go true full e = absurd (cc)
    go false full e =
        let nonce : m ≡ n = cc in
        let key : l ≡ k = cc in
        let version : u ≡ v = cc in
        record {
          expiry = d;
          value = x;
          request_is = λ j. Put (nonce j) (key j) (version j) d x;
          heard_is = ap (λ c. if c then h else happened.Stored (put_value l u d x) ∷ h) full ∙ (λ j. happened.Stored (put_value (key j) (version j) d x) ∷ h);
          incarnation_is = cc;
        }
stored_for brick b h (Get m l u) n k v i is = go (kept_under l u (all_held h)) is
  where
    go : (kept : Option Kept) → get_answer brick h m l u kept ≡ Some (Stored n k v b i) → StoredFor h (Get m l u) n k v i
    go None e = absurd (cc)
    go (Some s) e = absurd (cc)
stored_for brick b h (Sweep m moment) n k v i is = absurd (cc)
stored_for brick b h (Stored m l u c j) n k v i is = absurd (cc)
stored_for brick b h (Found m l u c j d x) n k v i is = absurd (cc)
stored_for brick b h (Absent m l u c j s) n k v i is = absurd (cc)
stored_for brick b h (BrickFull m l u c j s t) n k v i is = absurd (cc)
stored_for brick b h (Swept m c j s) n k v i is = absurd (cc)

-- a BrickFull answers a Put of its nonce, key and version, for which there was no room
pub record FullFor (h : List BrickEvent) (request : Frame) (n : Version) (k : SessionKey) (v : Version) (entries bytes : ℕ) : Type 0 where
  pub expiry : Moment
  pub value : List ℕ
  pub request_is : request ≡ Put n k v expiry value
  pub full : is_full (all_held h) (put_value k v expiry value) ≡ true
  pub heard_is : heard h request ≡ h
  pub entries_are : length (all_held h) ≡ entries
  pub bytes_are : bytes_of (all_held h) ≡ bytes

pub full_for : (brick b : BrickNo) (h : List BrickEvent) (request : Frame) (n : Version) (k : SessionKey) (v : Version) (i entries bytes : ℕ) → reply (brick_after brick h) request ≡ Some (BrickFull n k v b i entries bytes)
    → FullFor h request n k v entries bytes
full_for brick b h (Put m l u d x) n k v i entries bytes is = go (is_full (all_held h) (put_value l u d x)) refl is
  where
    go : (full : Bool) → is_full (all_held h) (put_value l u d x) ≡ full → put_answer brick h m l u full ≡ Some (BrickFull n k v b i entries bytes) → FullFor h (Put m l u d x) n k v entries bytes
    go false full e = absurd (cc)
    go true full e =
        let nonce : m ≡ n = cc in
        let key : l ≡ k = cc in
        let version : u ≡ v = cc in
        record {
          expiry = d;
          value = x;
          request_is = λ j. Put (nonce j) (key j) (version j) d x;
          full = (λ j. is_full (all_held h) (put_value (sym key j) (sym version j) d x)) ∙ full;
          heard_is = ap (λ c. if c then h else happened.Stored (put_value l u d x) ∷ h) full;
          entries_are = cc;
          bytes_are = cc;
        }
full_for brick b h (Get m l u) n k v i entries bytes is = go (kept_under l u (all_held h)) is
  where
    go : (kept : Option Kept) → get_answer brick h m l u kept ≡ Some (BrickFull n k v b i entries bytes) → FullFor h (Get m l u) n k v entries bytes
    go None e = absurd (cc)
    go (Some s) e = absurd (cc)
full_for brick b h (Sweep m moment) n k v i entries bytes is = absurd (cc)
full_for brick b h (Stored m l u c j) n k v i entries bytes is = absurd (cc)
full_for brick b h (Found m l u c j d x) n k v i entries bytes is = absurd (cc)
full_for brick b h (Absent m l u c j s) n k v i entries bytes is = absurd (cc)
full_for brick b h (BrickFull m l u c j s t) n k v i entries bytes is = absurd (cc)
full_for brick b h (Swept m c j s) n k v i entries bytes is = absurd (cc)

-- a Found answers a Get, and gives what is held
pub record FoundFor (h : List BrickEvent) (request : Frame) (n : Version) (k : SessionKey) (v : Version) (value : List ℕ) : Type 0 where
  pub request_is : request ≡ Get n k v
  pub found : Kept
  pub held_is : held h k v ≡ Some found
  pub value_is : found.value ≡ value

pub found_for : (brick b : BrickNo) (h : List BrickEvent) (request : Frame) (n : Version) (k : SessionKey) (v : Version) (i : ℕ) (e : Moment) (x : List ℕ) → reply (brick_after brick h) request ≡ Some (Found n k v b i e x) → FoundFor h request n k v x
found_for brick b h (Put m l u d y) n k v i e x is = go (is_full (all_held h) (put_value l u d y)) is
  where
    go : (full : Bool) → put_answer brick h m l u full ≡ Some (Found n k v b i e x) → FoundFor h (Put m l u d y) n k v x
    go true same = absurd (cc)
    go false same = absurd (cc)
found_for brick b h (Get m l u) n k v i e x is = go (kept_under l u (all_held h)) refl is
  where
    go : (kept : Option Kept) → kept_under l u (all_held h) ≡ kept → get_answer brick h m l u kept ≡ Some (Found n k v b i e x) → FoundFor h (Get m l u) n k v x
    go None there same = absurd (cc)
    go (Some s) there same =
        let nonce : m ≡ n = cc in
        let key : l ≡ k = cc in
        let version : u ≡ v = cc in
        record {
          request_is = λ j. Get (nonce j) (key j) (version j);
          found = s;
          held_is = sym (all_found h k v) ∙ (λ j. kept_under (sym key j) (sym version j) (all_held h)) ∙ there;
          value_is = cc;
        }
found_for brick b h (Sweep m moment) n k v i e x is = absurd (cc)
found_for brick b h (Stored m l u c j) n k v i e x is = absurd (cc)
found_for brick b h (Found m l u c j d y) n k v i e x is = absurd (cc)
found_for brick b h (Absent m l u c j s) n k v i e x is = absurd (cc)
found_for brick b h (BrickFull m l u c j s t) n k v i e x is = absurd (cc)
found_for brick b h (Swept m c j s) n k v i e x is = absurd (cc)

-- what an Absent to a Get tells: the incarnation, and what was swept
pub record AbsentFor (h : List BrickEvent) (i : ℕ) (moment : Moment) : Type 0 where
  pub incarnation_is : incarnation_after 1 h ≡ i
  pub swept_is : swept_after h ≡ moment

pub absent_for : (brick b : BrickNo) (h : List BrickEvent) (m : Version) (l : SessionKey) (u n : Version) (k : SessionKey) (v : Version) (i : ℕ) (moment : Moment) → reply (brick_after brick h) (Get m l u) ≡ Some (Absent n k v b i moment) → AbsentFor h i moment
absent_for brick b h m l u n k v i moment is = go (kept_under l u (all_held h)) is
  where
    go : (kept : Option Kept) → get_answer brick h m l u kept ≡ Some (Absent n k v b i moment) → AbsentFor h i moment
    go None same = record { incarnation_is = cc; swept_is = cc }
    go (Some s) same = absurd (cc)

-- a brick replies to a request alone, by a reply of its nonce
pub record RepliesTo (request frame : Frame) : Type 0 where
  pub asks : is_request request ≡ true
  pub replies : is_request frame ≡ false
  pub nonce_is : frame_nonce frame ≡ frame_nonce request

pub reply_to : (brick : BrickNo) (h : List BrickEvent) (request frame : Frame) → reply (brick_after brick h) request ≡ Some frame → RepliesTo request frame
reply_to brick h (Put m l u d x) frame is = go (is_full (all_held h) (put_value l u d x)) is
  where
    go : (full : Bool) → put_answer brick h m l u full ≡ Some frame → RepliesTo (Put m l u d x) frame
    go true e =
        let same : BrickFull m l u brick (incarnation_after 1 h) (length (all_held h)) (bytes_of (all_held h)) ≡ frame = cc in
        record { asks = refl; replies = ap is_request (sym same); nonce_is = ap frame_nonce (sym same) }
    go false e =
        let same : Stored m l u brick (incarnation_after 1 h) ≡ frame = cc in
        record { asks = refl; replies = ap is_request (sym same); nonce_is = ap frame_nonce (sym same) }
reply_to brick h (Get m l u) frame is = go (kept_under l u (all_held h)) is
  where
    go : (kept : Option Kept) → get_answer brick h m l u kept ≡ Some frame → RepliesTo (Get m l u) frame
    go None e =
        let same : Absent m l u brick (incarnation_after 1 h) (swept_after h) ≡ frame = cc in
        record { asks = refl; replies = ap is_request (sym same); nonce_is = ap frame_nonce (sym same) }
    go (Some s) e =
        let same : Found m l u brick (incarnation_after 1 h) s.expiry s.value ≡ frame = cc in
        record { asks = refl; replies = ap is_request (sym same); nonce_is = ap frame_nonce (sym same) }
reply_to brick h (Sweep m moment) frame is =
    let same : Swept m brick (incarnation_after 1 h) moment ≡ frame = cc in
    record { asks = refl; replies = ap is_request (sym same); nonce_is = ap frame_nonce (sym same) }
reply_to brick h (Stored m l u c j) frame is = absurd (cc)
reply_to brick h (Found m l u c j d x) frame is = absurd (cc)
reply_to brick h (Absent m l u c j s) frame is = absurd (cc)
reply_to brick h (BrickFull m l u c j s t) frame is = absurd (cc)
reply_to brick h (Swept m c j s) frame is = absurd (cc)

-- a request adds at most one event
pub heard_is : (h : List BrickEvent) (frame : Frame) → (newer : List BrickEvent) × (heard h frame ≡ newer ++ h)
heard_is h (Put n k v expiry value) = go (is_full (all_held h) (put_value k v expiry value))
  where
    go : (b : Bool) → (newer : List BrickEvent) × ((if b then h else happened.Stored (put_value k v expiry value) ∷ h) ≡ newer ++ h)
    go true = ([], refl)
    go false = (happened.Stored (put_value k v expiry value) ∷ [], refl)
heard_is h (Get n k v) = ([], refl)
heard_is h (Sweep n moment) = (happened.Sweep moment ∷ [], refl)
heard_is h (Stored n k v b i) = ([], refl)
heard_is h (Found n k v b i expiry value) = ([], refl)
heard_is h (Absent n k v b i s) = ([], refl)
heard_is h (BrickFull n k v b i entries bytes) = ([], refl)
heard_is h (Swept n b i moment) = ([], refl)
