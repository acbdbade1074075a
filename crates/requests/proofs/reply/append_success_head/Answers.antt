use Rattle.std.proofs.Common.{◌≡◌, ◌++◌, ℕ, List, refl, ap, ◌∙◌, append_assoc}
use Rattle.std.specs.Prelude.{codes, decimal}
use Rattle.std.specs.Fmt.{digits}
use Rattle.requests.specs.Replies.{success_head}
use Rattle.requests.proofs.reply.append_success_head.Goals as goal

lines : (len : ℕ)
    → codes "HTTP/1.1 200 OK\r\nContent-Type: application/json\r\nContent-Length: "
    ++ (decimal len ++ codes "\r\nConnection: close\r\n\r\n") ≡ success_head len
unfolding digits
lines len = refl

-- three texts, one after another
three : (old a b c n1 n2 n3 : List ℕ) → n1 ≡ old ++ a → n2 ≡ n1 ++ b → n3 ≡ n2 ++ c
    → n3 ≡ old ++ (a ++ (b ++ c))
three old a b c n1 n2 n3 h1 h2 h3 = rw (h3, h2, h1) (simp append_assoc)

pub returns : goal.returns
returns c =
    three c.args.out.now.items
    (codes "HTTP/1.1 200 OK\r\nContent-Type: application/json\r\nContent-Length: ")
    (decimal c.args.len) (codes "\r\nConnection: close\r\n\r\n")
    _ c.append_number.new.out.items _
    c.in_ok-extend_from_slice.ensures.items
    c.in_ok-append_number.ensures
    c.in_ok-extend_from_slice-2.ensures.items
    ∙ ap (λ s. c.args.out.now.items ++ s) (lines c.args.len)
