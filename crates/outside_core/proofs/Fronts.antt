-- What a copy to a buffer's front takes from the octets that are left.
use Rattle.std.proofs.Common.{◌≡◌, ℕ, ◌+◌, ◌<◌, ◌≤◌, List, ◌++◌, length, take, drop, sym, ap, ◌∙◌, subst, arith}
use Rattle.std.proofs.lemmas.List.{take-append-le, take-append-drop, drop-drop, length-take-le, length-append}
use Rattle.std.proofs.Math.Seq.{take-append_seam}

-- the buffer begins with what was copied, and the rest of the octets is left
pub front_taken : (octets copied rest : List ℕ) (at n : ℕ) → n ≤ length (drop at octets) → copied ≡ take n (drop at octets)
    → (n ≤ length (copied ++ rest)) × (drop at octets ≡ take n (copied ++ rest) ++ drop (at + n) octets)
front_taken octets copied rest at n h e =
    let size : length copied ≡ n = ap length e ∙ length-take-le n (drop at octets) h in
    let front : take n (copied ++ rest) ≡ copied = subst (λ k. take k (copied ++ rest) ≡ copied) size (take-append_seam copied rest) in (
      omega (arith, length-append copied rest, size),
      sym (take-append-drop n (drop at octets)) ∙ ap (λ xs. xs ++ drop n (drop at octets)) (sym e ∙ sym front) ∙ ap (λ xs. take n (copied ++ rest) ++ xs) (drop-drop n at octets),
    )
