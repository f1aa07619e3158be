-- The length of a page stands in its response, between parts that no page changes.
use Rattle.std.proofs.Common.{◌≡◌, ℕ, Bool, if◌then◌else◌, List, [], ◌++◌, codes, length, ap, sym, ◌∙◌, append_assoc}
use Rattle.std.specs.Fmt.{decimal}
use Rattle.http_wire.specs.declared.response.ExtraFields.{ExtraFields}
use Rattle.http_wire.specs.Response.{extra_fields, page_fields, page_part, response_bytes, status_line}

-- the first fields in two parts, whatever comes before and after them
parted : (line type said digits end fields last page : List ℕ)
    → (((line ++ (((type ++ said) ++ digits) ++ end)) ++ fields) ++ last) ++ page
    ≡ (((((line ++ type) ++ said) ++ digits) ++ end) ++ (fields ++ last)) ++ page
parted line type said digits end fields last page =
    let front = (((line ++ type) ++ said) ++ digits) ++ end in
    let first : line ++ (((type ++ said) ++ digits) ++ end) ≡ front =
    sym (append_assoc line ((type ++ said) ++ digits) end)
    ∙ ap (λ l. l ++ end) (sym (append_assoc line (type ++ said) digits) ∙ ap (λ l. l ++ digits) (sym (append_assoc line type said))) in
    ap (λ l. ((l ++ fields) ++ last) ++ page) first ∙ ap (λ l. l ++ page) (append_assoc front fields last)

pub sized : (status : ℕ) (extra : ExtraFields) → (front rest : List ℕ) × ((page : List ℕ) (head_only : Bool)
    → response_bytes status extra page head_only
    ≡ front ++ codes "\r\nContent-Length: " ++ decimal (length page) ++ codes "\r\n" ++ rest ++ (if head_only then [] else page))
unfolding response_bytes page_fields page_part
sized status extra = (
  status_line status ++ codes "\r\nContent-Type: text/html; charset=utf-8",
  extra_fields extra ++ codes "\r\n",
  λ page head_only.
      parted (status_line status) (codes "\r\nContent-Type: text/html; charset=utf-8") (codes "\r\nContent-Length: ") (decimal (length page))
      (codes "\r\n") (extra_fields extra) (codes "\r\n") (if head_only then [] else page),
)
