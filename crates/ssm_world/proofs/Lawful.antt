-- What a lawful reply is.
use Rattle.std.proofs.Common.{◌≡◌, ℕ, ◌==◌, Bool, true, false, if◌then◌else◌, Some, None, refl, sym, ap, ◌∙◌, subst}
use Rattle.crash_base.specs.declared.numbers.BrickNo.{BrickNo}
use Rattle.crash_base.specs.declared.numbers.Moment.{Moment}
use Rattle.crash_base.specs.declared.numbers.SessionKey.{SessionKey}
use Rattle.crash_base.specs.declared.numbers.Version.{Version}
use Rattle.session_cookie.specs.declared.cookie.Holder.{Holder}
use Rattle.ssm_frames.specs.declared.frame.Frame.{Frame}
use Rattle.ssm_frames.specs.declared.frame.Frame.TheVariants.{Put, Get, Sweep, Stored, Found, Absent, BrickFull, Swept}
use Rattle.brick_store.specs.Kept.{is_late}
use Rattle.ssm_stub.specs.declared.reply.WriteReply.TheVariants as put
use Rattle.ssm_stub.specs.declared.reply.ReadReply.{ReadReply}
use Rattle.ssm_stub.specs.declared.reply.ReadReply.TheVariants as get
use Rattle.ssm_stub.specs.Replies.{is_reply, refers}
use Rattle.ssm_stub.specs.Writes.{put_lawful}
use Rattle.ssm_stub.specs.Reads.{get_lawful}
pub use Rattle.ssm_stub.specs.Lawful.{IsGetReply}
use Rattle.ssm_stub.proofs.Tests.{reply_is, same_number, number_same}
use Rattle.ssm_world.proofs.Tests.{late_is}

-- a lawful Stored is the brick's Stored to this write
pub lawful_stored : (nonce : Version) (key : SessionKey) (brick : BrickNo) (frame : Frame) (i : ℕ) → put_lawful nonce key brick frame ≡ Some (put.Stored i) → frame ≡ Stored nonce key nonce brick i
lawful_stored nonce key brick (Stored n k v b j) i h = go (is_reply (refers nonce key nonce brick) (refers n k v b)) refl h
  where
    go : (t : Bool) → is_reply (refers nonce key nonce brick) (refers n k v b) ≡ t → (if t then Some (put.Stored j) else None) ≡ Some (put.Stored i) → Stored n k v b j ≡ Stored nonce key nonce brick i
    go true is same =
        let to : refers n k v b ≡ refers nonce key nonce brick = reply_is (refers nonce key nonce brick) (refers n k v b) is in
        let number : j ≡ i = cc in
        λ l. Stored (to l).nonce (to l).key (to l).version (to l).brick (number l)
    go false is same = absurd (cc)
lawful_stored nonce key brick (BrickFull n k v b j entries bytes) i h = go (is_reply (refers nonce key nonce brick) (refers n k v b)) h
  where
    go : (t : Bool) → (if t then Some (put.Full entries bytes) else None) ≡ Some (put.Stored i) → BrickFull n k v b j entries bytes ≡ Stored nonce key nonce brick i
    go true same = absurd (cc)
    go false same = absurd (cc)
lawful_stored nonce key brick (Put n k v expiry value) i h = absurd (cc)
lawful_stored nonce key brick (Get n k v) i h = absurd (cc)
lawful_stored nonce key brick (Sweep n moment) i h = absurd (cc)
lawful_stored nonce key brick (Found n k v b j expiry value) i h = absurd (cc)
lawful_stored nonce key brick (Absent n k v b j swept) i h = absurd (cc)
lawful_stored nonce key brick (Swept n b j moment) i h = absurd (cc)

-- and a lawful BrickFull is the brick's BrickFull to this write
pub lawful_full : (nonce : Version) (key : SessionKey) (brick : BrickNo) (frame : Frame) (entries bytes : ℕ) → put_lawful nonce key brick frame ≡ Some (put.Full entries bytes)
    → (i : ℕ) × (frame ≡ BrickFull nonce key nonce brick i entries bytes)
lawful_full nonce key brick (BrickFull n k v b j e s) entries bytes h = go (is_reply (refers nonce key nonce brick) (refers n k v b)) refl h
  where
    go : (t : Bool) → is_reply (refers nonce key nonce brick) (refers n k v b) ≡ t → (if t then Some (put.Full e s) else None) ≡ Some (put.Full entries bytes) → (i : ℕ) × (BrickFull n k v b j e s ≡ BrickFull nonce key nonce brick i entries bytes)
    go true is same =
        let to : refers n k v b ≡ refers nonce key nonce brick = reply_is (refers nonce key nonce brick) (refers n k v b) is in
        let count : e ≡ entries = cc in
        let size : s ≡ bytes = cc in
        (j, (λ l. BrickFull (to l).nonce (to l).key (to l).version (to l).brick j (count l) (size l)))
    go false is same = absurd (cc)
lawful_full nonce key brick (Stored n k v b j) entries bytes h = go (is_reply (refers nonce key nonce brick) (refers n k v b)) h
  where
    go : (t : Bool) → (if t then Some (put.Stored j) else None) ≡ Some (put.Full entries bytes) → (i : ℕ) × (Stored n k v b j ≡ BrickFull nonce key nonce brick i entries bytes)
    go true same = absurd (cc)
    go false same = absurd (cc)
lawful_full nonce key brick (Put n k v expiry value) entries bytes h = absurd (cc)
lawful_full nonce key brick (Get n k v) entries bytes h = absurd (cc)
lawful_full nonce key brick (Sweep n moment) entries bytes h = absurd (cc)
lawful_full nonce key brick (Found n k v b j expiry value) entries bytes h = absurd (cc)
lawful_full nonce key brick (Absent n k v b j swept) entries bytes h = absurd (cc)
lawful_full nonce key brick (Swept n b j moment) entries bytes h = absurd (cc)

-- and a lawful reply to a Get is the holder's to this read
pub lawful_get_is : (nonce : Version) (key : SessionKey) (version : Version) (expiry : Moment) (holder : Holder) (frame : Frame) (reply : ReadReply)
    → get_lawful nonce key version expiry holder frame ≡ Some reply → IsGetReply nonce key version expiry holder frame reply
lawful_get_is nonce key version expiry h (Found n k v b j until value) reply is = go (is_reply (refers nonce key version h.brick) (refers n k v b)) refl is
  where
    go : (t : Bool) → is_reply (refers nonce key version h.brick) (refers n k v b) ≡ t → (if t then Some (get.Found value) else None) ≡ Some reply → IsGetReply nonce key version expiry h (Found n k v b j until value) reply
    go true met e =
        let to : refers n k v b ≡ refers nonce key version h.brick = reply_is (refers nonce key version h.brick) (refers n k v b) met in
        let same : get.Found value ≡ reply = cc in
        let P : ReadReply → Type 0 = λ r. IsGetReply nonce key version expiry h (Found n k v b j until value) r in
        subst P same (j, until, (λ l. Found (to l).nonce (to l).key (to l).version (to l).brick j until value))
    go false met e = absurd (cc)
lawful_get_is nonce key version expiry h (Absent n k v b j moment) reply is =
    go (is_reply (refers nonce key version h.brick) (refers n k v b)) (j == h.incarnation) (is_late moment expiry) refl refl refl is
  where
    go : (t same late : Bool) → is_reply (refers nonce key version h.brick) (refers n k v b) ≡ t → (j == h.incarnation) ≡ same → is_late moment expiry ≡ late
        → (if t then (if same then (if late then Some (get.Swept moment) else None) else Some (get.Crashed j)) else None) ≡ Some reply
        → IsGetReply nonce key version expiry h (Absent n k v b j moment) reply
    go true true true met named past e =
        let to : refers n k v b ≡ refers nonce key version h.brick = reply_is (refers nonce key version h.brick) (refers n k v b) met in
        let number : j ≡ h.incarnation = same_number j h.incarnation named in
        let swept : get.Swept moment ≡ reply = cc in
        let P : ReadReply → Type 0 = λ r. IsGetReply nonce key version expiry h (Absent n k v b j moment) r in
        subst P swept ((λ l. Absent (to l).nonce (to l).key (to l).version (to l).brick (number l) moment), late_is moment expiry past)
    go true true false met named past e = absurd (cc)
    go true false late met named past e =
        let to : refers n k v b ≡ refers nonce key version h.brick = reply_is (refers nonce key version h.brick) (refers n k v b) met in
        let crashed : get.Crashed j ≡ reply = cc in
        let P : ReadReply → Type 0 = λ r. IsGetReply nonce key version expiry h (Absent n k v b j moment) r in
        let apart : j ≡ h.incarnation → ⊥ = λ (equal : j ≡ h.incarnation). absurd (let t : (j == h.incarnation) ≡ true = ap (λ x. j == x) (sym equal) ∙ number_same j in cc) in
        subst P crashed (moment, (λ l. Absent (to l).nonce (to l).key (to l).version (to l).brick j moment), apart)
    go false same late met named past e = absurd (cc)
lawful_get_is nonce key version expiry h (Put n k v until value) reply is = absurd (cc)
lawful_get_is nonce key version expiry h (Get n k v) reply is = absurd (cc)
lawful_get_is nonce key version expiry h (Sweep n moment) reply is = absurd (cc)
lawful_get_is nonce key version expiry h (Stored n k v b j) reply is = absurd (cc)
lawful_get_is nonce key version expiry h (BrickFull n k v b j entries bytes) reply is = absurd (cc)
lawful_get_is nonce key version expiry h (Swept n b j moment) reply is = absurd (cc)
