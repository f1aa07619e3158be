-- What a lawful reply is.
use Rattle.std.proofs.Common.{◌≡◌, ◌+◌, ◌==◌, Bool, true, false, nat_lt, if◌then◌else◌, Option, Some, None, refl, sym, ap, ◌∙◌, subst}
use Rattle.std.proofs.lemmas.Bool.{ltb-true, lt-ltb}
use Rattle.crash_base.specs.declared.numbers.BrickNo.{BrickNo}
use Rattle.crash_base.specs.declared.numbers.Moment.{Moment}
use Rattle.crash_base.specs.declared.numbers.SessionKey.{SessionKey}
use Rattle.crash_base.specs.declared.numbers.Version.{Version}
use Rattle.session_cookie.specs.declared.cookie.Holder.{Holder}
use Rattle.ssm_frames.specs.declared.frame.Frame.{Frame}
use Rattle.ssm_frames.specs.declared.frame.Frame.TheVariants.{Put, Get, Sweep, Stored, Found, Absent, BrickFull, Swept}
use Rattle.ssm_frames.specs.declared.frame.TheConstants.{SWEEP_GRACE}
use Rattle.ssm_stub.specs.declared.reply.WriteReply.{WriteReply}
use Rattle.ssm_stub.specs.declared.reply.WriteReply.TheVariants as put
use Rattle.ssm_stub.specs.declared.reply.ReadReply.{ReadReply}
use Rattle.ssm_stub.specs.declared.reply.ReadReply.TheVariants as get
use Rattle.ssm_stub.specs.Replies.{is_reply, refers, absence}
use Rattle.ssm_stub.specs.Writes.{put_lawful}
use Rattle.ssm_stub.specs.Reads.{get_lawful}
use Rattle.ssm_stub.specs.Lawful.{IsPutReply, IsGetReply}
use Rattle.ssm_stub.proofs.Tests.{reply_is, reply_same, same_number, number_same, number_other}

if_true : {X : Type 0} (b : Bool) (x y : X) → b ≡ true → (if b then x else y) ≡ x
if_true b x y h = ap (λ c. if c then x else y) h

if_false : {X : Type 0} (b : Bool) (x y : X) → b ≡ false → (if b then x else y) ≡ y
if_false b x y h = ap (λ c. if c then x else y) h

pub lawful_put_is : (nonce : Version) (key : SessionKey) (brick : BrickNo) (frame : Frame) (reply : WriteReply) → put_lawful nonce key brick frame ≡ Some reply → IsPutReply nonce key brick frame reply
lawful_put_is nonce key brick (Stored n k v b j) reply h = go (is_reply (refers nonce key nonce brick) (refers n k v b)) refl h
  where
    go : (t : Bool) → is_reply (refers nonce key nonce brick) (refers n k v b) ≡ t → (if t then Some (put.Stored j) else None) ≡ Some reply → IsPutReply nonce key brick (Stored n k v b j) reply
    go true is e =
        let to : refers n k v b ≡ refers nonce key nonce brick = reply_is (refers nonce key nonce brick) (refers n k v b) is in
        let same : put.Stored j ≡ reply = cc in
        let P : WriteReply → Type 0 = λ r. IsPutReply nonce key brick (Stored n k v b j) r in
        subst P same (λ l. Stored (to l).nonce (to l).key (to l).version (to l).brick j)
    go false is e = absurd (cc)
lawful_put_is nonce key brick (BrickFull n k v b j entries bytes) reply h = go (is_reply (refers nonce key nonce brick) (refers n k v b)) refl h
  where
    go : (t : Bool) → is_reply (refers nonce key nonce brick) (refers n k v b) ≡ t → (if t then Some (put.Full entries bytes) else None) ≡ Some reply → IsPutReply nonce key brick (BrickFull n k v b j entries bytes) reply
    go true is e =
        let to : refers n k v b ≡ refers nonce key nonce brick = reply_is (refers nonce key nonce brick) (refers n k v b) is in
        let same : put.Full entries bytes ≡ reply = cc in
        let P : WriteReply → Type 0 = λ r. IsPutReply nonce key brick (BrickFull n k v b j entries bytes) r in
        subst P same (j, (λ l. BrickFull (to l).nonce (to l).key (to l).version (to l).brick j entries bytes))
    go false is e = absurd (cc)
lawful_put_is nonce key brick (Put n k v expiry value) reply h = absurd (cc)
lawful_put_is nonce key brick (Get n k v) reply h = absurd (cc)
lawful_put_is nonce key brick (Sweep n moment) reply h = absurd (cc)
lawful_put_is nonce key brick (Found n k v b j expiry value) reply h = absurd (cc)
lawful_put_is nonce key brick (Absent n k v b j swept) reply h = absurd (cc)
lawful_put_is nonce key brick (Swept n b j moment) reply h = absurd (cc)

pub is_lawful_put : (nonce : Version) (key : SessionKey) (brick : BrickNo) (frame : Frame) (reply : WriteReply) → IsPutReply nonce key brick frame reply → put_lawful nonce key brick frame ≡ Some reply
is_lawful_put nonce key brick frame (put.Stored i) is =
    ap (put_lawful nonce key brick) is
    ∙ if_true (is_reply (refers nonce key nonce brick) (refers nonce key nonce brick)) (Some (put.Stored i)) None (reply_same (refers nonce key nonce brick))
is_lawful_put nonce key brick frame (put.Full entries bytes) (i, is) =
    ap (put_lawful nonce key brick) is
    ∙ if_true (is_reply (refers nonce key nonce brick) (refers nonce key nonce brick)) (Some (put.Full entries bytes)) None (reply_same (refers nonce key nonce brick))

pub lawful_get_is : (nonce : Version) (key : SessionKey) (version : Version) (expiry : Moment) (holder : Holder) (frame : Frame) (reply : ReadReply)
    → get_lawful nonce key version expiry holder frame ≡ Some reply → IsGetReply nonce key version expiry holder frame reply
lawful_get_is nonce key version expiry h (Found n k v b j until value) reply is = go (is_reply (refers nonce key version h.brick) (refers n k v b)) refl is
  where
    go : (t : Bool) → is_reply (refers nonce key version h.brick) (refers n k v b) ≡ t → (if t then Some (get.Found value) else None) ≡ Some reply → IsGetReply nonce key version expiry h (Found n k v b j until value) reply
    go true met e =
        let to : refers n k v b ≡ refers nonce key version h.brick = reply_is (refers nonce key version h.brick) (refers n k v b) met in
        let same : get.Found value ≡ reply = cc in
        let P : ReadReply → Type 0 = λ r. IsGetReply nonce key version expiry h (Found n k v b j until value) r in
        subst P same (j, until, (λ l. Found (to l).nonce (to l).key (to l).version (to l).brick j until value))
    go false met e = absurd (cc)
lawful_get_is nonce key version expiry h (Absent n k v b j moment) reply is =
    go (is_reply (refers nonce key version h.brick) (refers n k v b)) (j == h.incarnation) (nat_lt (expiry.0 + SWEEP_GRACE) moment.0) refl refl refl is
  where
    go : (t same late : Bool) → is_reply (refers nonce key version h.brick) (refers n k v b) ≡ t → (j == h.incarnation) ≡ same → nat_lt (expiry.0 + SWEEP_GRACE) moment.0 ≡ late
        → (if t then (if same then (if late then Some (get.Swept moment) else None) else Some (get.Crashed j)) else None) ≡ Some reply
        → IsGetReply nonce key version expiry h (Absent n k v b j moment) reply
    go true true true met named past e =
        let to : refers n k v b ≡ refers nonce key version h.brick = reply_is (refers nonce key version h.brick) (refers n k v b) met in
        let number : j ≡ h.incarnation = same_number j h.incarnation named in
        let swept : get.Swept moment ≡ reply = cc in
        let P : ReadReply → Type 0 = λ r. IsGetReply nonce key version expiry h (Absent n k v b j moment) r in
        subst P swept ((λ l. Absent (to l).nonce (to l).key (to l).version (to l).brick (number l) moment), ltb-true (expiry.0 + SWEEP_GRACE) moment.0 past)
    go true true false met named past e = absurd (cc)
    go true false late met named past e =
        let to : refers n k v b ≡ refers nonce key version h.brick = reply_is (refers nonce key version h.brick) (refers n k v b) met in
        let crashed : get.Crashed j ≡ reply = cc in
        let P : ReadReply → Type 0 = λ r. IsGetReply nonce key version expiry h (Absent n k v b j moment) r in
        let apart : j ≡ h.incarnation → ⊥ = λ (equal : j ≡ h.incarnation). absurd (let t : (j == h.incarnation) ≡ true = ap (λ x. j == x) (sym equal) ∙ number_same j in cc) in
        subst P crashed (moment, (λ l. Absent (to l).nonce (to l).key (to l).version (to l).brick j moment), apart)
    go false same late met named past e = absurd (cc)
lawful_get_is nonce key version expiry h (Put n k v until value) reply is = absurd (cc)
lawful_get_is nonce key version expiry h (Get n k v) reply is = absurd (cc)
lawful_get_is nonce key version expiry h (Sweep n moment) reply is = absurd (cc)
lawful_get_is nonce key version expiry h (Stored n k v b j) reply is = absurd (cc)
lawful_get_is nonce key version expiry h (BrickFull n k v b j entries bytes) reply is = absurd (cc)
lawful_get_is nonce key version expiry h (Swept n b j moment) reply is = absurd (cc)

pub is_lawful_get : (nonce : Version) (key : SessionKey) (version : Version) (expiry : Moment) (holder : Holder) (frame : Frame) (reply : ReadReply)
    → IsGetReply nonce key version expiry holder frame reply → get_lawful nonce key version expiry holder frame ≡ Some reply
is_lawful_get nonce key version expiry h frame (get.Found value) (i, until, is) =
    let to = refers nonce key version h.brick in
    ap (get_lawful nonce key version expiry h) is ∙ if_true (is_reply to to) (Some (get.Found value)) None (reply_same to)
is_lawful_get nonce key version expiry h frame (get.Crashed j) (swept, is, other) =
    let to = refers nonce key version h.brick in
    let past : Option ReadReply = if nat_lt (expiry.0 + SWEEP_GRACE) swept.0 then Some (get.Swept swept) else None in
    ap (get_lawful nonce key version expiry h) is
    ∙ if_true (is_reply to to) (absence h expiry j swept) None (reply_same to)
    ∙ if_false (j == h.incarnation) past (Some (get.Crashed j)) (number_other j h.incarnation other)
is_lawful_get nonce key version expiry h frame (get.Swept swept) (is, late) =
    let to = refers nonce key version h.brick in
    let past : Option ReadReply = if nat_lt (expiry.0 + SWEEP_GRACE) swept.0 then Some (get.Swept swept) else None in
    ap (get_lawful nonce key version expiry h) is
    ∙ if_true (is_reply to to) (absence h expiry h.incarnation swept) None (reply_same to)
    ∙ if_true (h.incarnation == h.incarnation) past (Some (get.Crashed h.incarnation)) (number_same h.incarnation)
    ∙ if_true (nat_lt (expiry.0 + SWEEP_GRACE) swept.0) (Some (get.Swept swept)) None (lt-ltb (expiry.0 + SWEEP_GRACE) swept.0 late)
