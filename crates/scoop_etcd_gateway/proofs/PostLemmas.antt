-- The bytes that a request appends, in three steps.
use Rattle.std.proofs.Common.{◌≡◌, ℕ, List, [], ◌++◌, ◌∙◌, ap, append_assoc, length, codes, Result, OnOk}
use Rattle.std.proofs.lemmas.Result.{on_ok_weaker}
use Rattle.http1.specs.declared.client.Client.{Client}
use Rattle.http1.specs.declared.conn.Limits.{Limits}
use Rattle.http1.specs.declared.conn.BodySize.TheVariants.{Known}
use Rattle.http1.specs.declared.error.WriteError.{WriteError}
use Rattle.http1.specs.Conn.{after_data, data_text, finish_text}
use Rattle.http1.specs.Client.{new_client, planned_request, after_request, with_writing, writing}
use Rattle.scoop_etcd_gateway.specs.Post.{post_headers, post_text}

three_parts : (x a b c y z : List ℕ) → y ≡ x ++ a → z ≡ y ++ b → z ++ c ≡ x ++ (a ++ (b ++ c))
three_parts x a b c y z first second =
    ap (λ w. w ++ c) (second ∙ ap (λ w. w ++ b) first) ∙ append_assoc (x ++ a) b c ∙ append_assoc x a (b ++ c)

pub posted : {A : Type 0} (limits : Limits) (host path body out a b z : List ℕ) (start asked sent : Client) (r : Result A WriteError)
    → start ≡ new_client limits
    → a ≡ out ++ planned_request start (codes "POST") path (Known (length body)) (post_headers host)
    → asked ≡ after_request start (codes "POST") (Known (length body)) (post_headers host)
    → b ≡ a ++ data_text (writing asked) body
    → sent ≡ with_writing asked (after_data (writing asked) (length body))
    → OnOk r (z ≡ b ++ finish_text (writing sent) [])
    → OnOk r (z ≡ out ++ post_text limits host path body)
posted limits host path body out a b z start asked sent r begins head after_head piece after_body end =
    let head' = rw begins at head in
    let after_head' = rw begins at after_head in
    let piece' = rw after_head' at piece in
    let after_body' = rw after_head' at after_body in
    on_ok_weaker r (λ e. rw after_body' at e ∙ three_parts out _ _ _ a b head' piece') end
