-- Texts put in front of a buffer: refused, accepted, of a list that a call put in front of a table, and of a pair.
use Rattle.std.specs.Prelude.{◌≡◌, Ok, Err}
use Rattle.lists.{specs.Kit.{refl, sym, ◌∙◌, ap, subst, List, ℕ, zero, suc, min, arith, length, take}, specs.Lists.{overwrite}}
use Rattle.lists.{proofs.Overwrite.{take_overwrite}, proofs.Parts.{take_min}}
use Rattle.text.specs.Print.{buffer_at, Puts}
use Rattle.calls.specs.{Outcomes.{Listing, listing, listing_outcome}, LiftOutcome.{pair}, Questions.{by_number}, declared.Pair.{Pair}, declared.Value.{Value}}
use Rattle.calls.{specs.Answers.{refusal_number, value_reply, pair_reply}, specs.declared.{Refusal.{Refusal}, Ends.{Ends}}, proofs.AnswerLaws.{refused_not}}
use Rattle.site_program.specs.Texts.{TextBy}

-- ---- TextBy

pub by_refused : (q : ℕ) (text w : List ℕ) (r : Refusal) → refusal_number r ≡ q → TextBy q text w (Err r) w
unfolding TextBy
by_refused zero text w r e = absurd (refused_not r e)
by_refused (suc q) text w r e = record { number = e; lent = refl }

pub by_put : (q : ℕ) (text w : List ℕ) (k : ℕ) (x : List ℕ) → q ≡ 0 → Puts (buffer_at w 0) text (buffer_at x k) → TextBy q text w (Ok k) x
unfolding TextBy
by_put q text w k x e p = subst (λ (i : ℕ). TextBy i text w (Ok k) x) (sym e) (record { number = refl; puts = p })

-- the first entries of a list, no more than it has
pub take_least : (k m r : ℕ) (xs : List ℕ) → length xs ≡ m → r ≡ min k m → take r xs ≡ take k xs
take_least k m r xs e d = ap (λ (i : ℕ). take i xs) (d ∙ ap (λ (i : ℕ). min k i) (sym e)) ∙ take_min k xs

-- ---- what a call put in front of a table

module _ (R count : ℕ) (new old now : List ℕ) where
  pub listed_refused : (text w : List ℕ) (r : Refusal) → listing (value_reply (Err r)) now ≡ listing_outcome R count new old → TextBy R text w (Err r) w
  unfolding listing_outcome by_number
  listed_refused text w r e = by_refused R text w r (go R e)
    where
      go : (Q : ℕ) → listing (value_reply (Err r)) now ≡ listing_outcome Q count new old → refusal_number r ≡ Q
      go zero d = ap (λ (o : Listing Value (List ℕ)). o.reply.number) d
      go (suc q) d = ap (λ (o : Listing Value (List ℕ)). o.reply.number) d

  listed_zero : (k : ℕ) → listing (value_reply (Ok k)) now ≡ listing_outcome R count new old
      → (R ≡ 0) × (listing (value_reply (Ok k)) now ≡ listing (value_reply (Ok count)) (overwrite new old))
  unfolding listing_outcome by_number
  listed_zero k e = go R e
    where
      go : (Q : ℕ) → listing (value_reply (Ok k)) now ≡ listing_outcome Q count new old
          → (Q ≡ 0) × (listing (value_reply (Ok k)) now ≡ listing (value_reply (Ok count)) (overwrite new old))
      go zero d = (refl, d)
      go (suc q) d = absurd (omega (arith, ap (λ (o : Listing Value (List ℕ)). o.reply.number) d))

  -- a text of it; `size` tells its entries from the reply's count
  pub by_listed : (F : List ℕ → List ℕ) (size : ℕ → ℕ) (k : ℕ) (w : List ℕ) (m : ℕ) (x : List ℕ) → length new ≡ size count
      → listing (value_reply (Ok k)) now ≡ listing_outcome R count new old
      → Puts (buffer_at w 0) (F (take (size k) now)) (buffer_at x m) → TextBy R (F new) w (Ok m) x
  by_listed F size k w m x long e p =
      let same = listed_zero k e in
      let many : k ≡ count = ap (λ (o : Listing Value (List ℕ)). o.reply.value) same.1 in
      let lent : now ≡ overwrite new old = ap (λ (o : Listing Value (List ℕ)). o.lent) same.1 in
      let front : take (size k) now ≡ new = rw (many, lent, ← long) (take_overwrite new old) in
      by_put R (F new) w m x same.0 (subst (λ (xs : List ℕ). Puts (buffer_at w 0) (F xs) (buffer_at x m)) front p)

-- ---- the line of a pair that a call answered

module _ (R a b : ℕ) where
  pub pair_refused : (text w : List ℕ) (r : Refusal) → pair_reply (Err r) ≡ by_number R (pair 0 a b) (λ q. pair q 0 0) → TextBy R text w (Err r) w
  unfolding by_number
  pair_refused text w r e = by_refused R text w r (go R e)
    where
      go : (Q : ℕ) → pair_reply (Err r) ≡ by_number Q (pair 0 a b) (λ q. pair q 0 0) → refusal_number r ≡ Q
      go zero d = ap (λ (o : Pair). o.number) d
      go (suc q) d = ap (λ (o : Pair). o.number) d

  pub by_pair : (F : ℕ → ℕ → List ℕ) (ends : Ends) (w : List ℕ) (m : ℕ) (x : List ℕ) → pair_reply (Ok ends) ≡ by_number R (pair 0 a b) (λ q. pair q 0 0)
      → Puts (buffer_at w 0) (F ends.low ends.high) (buffer_at x m) → TextBy R (F a b) w (Ok m) x
  unfolding by_number
  by_pair F ends w m x e p =
      let same = go R e in
      let low : ends.low ≡ a = ap (λ (o : Pair). o.low) same.1 in
      let high : ends.high ≡ b = ap (λ (o : Pair). o.high) same.1 in
      by_put R (F a b) w m x same.0 (rw (low, high) at p)
    where
      go : (Q : ℕ) → pair_reply (Ok ends) ≡ by_number Q (pair 0 a b) (λ q. pair q 0 0) → (Q ≡ 0) × (pair_reply (Ok ends) ≡ pair 0 a b)
      go zero d = (refl, d)
      go (suc q) d = absurd (omega (arith, ap (λ (o : Pair). o.number) d))
