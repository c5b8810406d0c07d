-- A list of numbers read from the front and written to a slice: one law for each answer of `gather`.
use mathlib.Core.Path.{◌≡◌, refl, sym, ap, ◌∙◌}
use mathlib.Core.Bool.{Bool}
use mathlib.Core.List.{List, [], ◌++◌, append-nil}
use mathlib.Core.Option.{Option, none, some}
use Prim.Native.Nat.{ℕ, ◌+◌, ◌≤◌, ◌<◌}
use native.Mathlib.Numerals.{add-one}
use native.Mathlib.Omega.{arith}
use Rattle.std.specs.Prelude.{None, Some}
use lib.ListN.{length, take, drop, get_or, set}
use lib.Seq.{length-take-le, take-suc-set, append_snoc}
use Rattle.dqbf.specs.Text.{space, prepend}
use Rattle.numerals.specs.Working.{is_digit, entries, count_of, Led, Leading, Gathered}
use Rattle.numerals.specs.declared.list.Listed.{Listed}
use Rattle.numerals.proofs.Laws.Bytewise.{list-is}
use Rattle.numerals.proofs.Laws.Listed.{list_at, list-end, list-space, list-closed}

-- what was gathered, in front of what is still to be read
unfoldable pub behind : List ℕ → Option (List ℕ) → Option (List ℕ)
behind xs none = none
behind xs (some ys) = some (xs ++ ys)

pub gather_none : (out : List ℕ) (o : Option (List ℕ)) → o ≡ behind (take 0 out) o
unfolding behind
gather_none out none = refl
gather_none out (some xs) = refl

behind_more : (out : List ℕ) (n x : ℕ) (o : Option (List ℕ)) → n < length out → behind (take n out) (prepend (some x) o) ≡ behind (take (n + 1) (set out n x)) o
unfolding behind prepend
behind_more out n x none h = refl
behind_more out n x (some xs) h = rw (add-one, take-suc-set out n x h, append_snoc (take n out) x xs)

gathered-some : (o : Option (List ℕ)) (n : ℕ) (out : List ℕ) → n ≤ length out → o ≡ behind (take n out) (some []) → Gathered o (Some n) out
unfolding behind count_of entries
gathered-some o n out h e =
    let f : o ≡ some (take n out) = e ∙ ap (λ (l : List ℕ). some l) (append-nil (take n out)) in
    record { count-is = rw (f, length-take-le n out h); front = rw (f, length-take-le n out h) }

gathered_none : (o : Option (List ℕ)) (out : List ℕ) → o ≡ none → Gathered o None out
unfolding count_of entries
gathered_none o out e = record { count-is = rw e; front = rw e }

-- Those before `at` are read: n entries of `out` were gathered, and the whole comes to o.
module _ (signed : Bool) (line out : List ℕ) (n at : ℕ) (o : Option (List ℕ)) (fits : n ≤ length out) (so_far : o ≡ behind (take n out) (list_at signed line at)) where
  pub gather-end : length line ≤ at → Gathered o None out
  unfolding behind
  gather-end h = gathered_none o out (so_far ∙ rw (list-end signed line at 0 0 (list_at signed line at) (list-is signed (drop at line)) h))

  pub gather-number : (t : Listed) → Led signed line at t → n < length out → o ≡ behind (take (n + 1) (set out n t.number)) (list_at signed line t.next)
  gather-number t led room = so_far ∙ ap (behind (take n out)) led.list ∙ behind_more out n t.number (list_at signed line t.next) room

  pub gather-bad : Leading signed line at None → (get_or line at 0 ≡ space → ⊥) → (get_or line at 0 ≡ 48 → at + 1 ≡ length line → ⊥) → Gathered o None out
  unfolding behind
  gather-bad leading apart more = gathered_none o out (so_far ∙ rw (leading.missing refl apart more))

  pub gather-space : at < length line → get_or line at 0 ≡ space → o ≡ behind (take n out) (list_at signed line (at + 1))
  gather-space h s = so_far ∙ ap (behind (take n out)) (list-space signed line at 0 0 (list_at signed line at) (list-is signed (drop at line)) h s refl refl ∙ sym (list-is signed (drop (at + 1) line)))

  pub gather-done : at < length line → get_or line at 0 ≡ 48 → at + 1 ≡ length line → Gathered o (Some n) out
  unfolding is_digit
  gather-done h z e = gathered-some o n out fits (so_far ∙ ap (behind (take n out)) (list-closed signed line at 0 0 (list_at signed line at) (list-is signed (drop at line)) h 0 (omega arith) (rw z) refl refl e))
