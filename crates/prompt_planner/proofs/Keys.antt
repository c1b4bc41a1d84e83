-- Keys of pairs in a set.
use Rattle.std.proofs.Common.{◌≡◌, ℕ, ◌+◌, ◌<◌, List, [], ◌∷◌, ◌++◌, length, take, get_or, refl, sym, ap, ◌∙◌, subst, inl, inr, ◌⊎◌, ◌↔◌, Ordering, add-one}
use Rattle.std.specs.declared.cmp.Ordering.TheVariants.{Less, Equal, Greater}
use Rattle.std.specs.List.{Contains}
use Rattle.std.specs.Ordering.{nat_cmp, ordering_then, match_ordering}
use Rattle.std.specs.BTreeSet.{insert_key}
use Rattle.std.proofs.lemmas.Cmp.{ranked}
use Rattle.std.proofs.lemmas.List.Elements.{Contains-append_left, Contains-append_right, Contains-append_cases}
use Rattle.std.proofs.Math.Seq.{take-suc}
use Rattle.prompt_checker.specs.Plan.{pair_cmp}
use Rattle.cost_graph.proofs.Members.{no_member, member_cons, member_head, member_tail}

pub pair_is : (a b : ℕ × ℕ) → a.0 ≡ b.0 → a.1 ≡ b.1 → a ≡ b
pair_is a b x y = let P : ℕ → ℕ × ℕ = λ u. (u, a.1) in let Q : ℕ → ℕ × ℕ = λ u. (b.0, u) in ap P x ∙ ap Q y

pub pair_equal : (a b : ℕ × ℕ) → pair_cmp a b ≡ Equal → a ≡ b
pair_equal a b e = first (nat_cmp a.0 b.0) refl e
  where
    second : (o : Ordering) → o ≡ nat_cmp a.1 b.1 → o ≡ Equal → a.1 ≡ b.1
    second Less s e' = absurd (cc e')
    second Equal s e' = ranked a.1 b.1 Equal s
    second Greater s e' = absurd (cc e')

    first : (o : Ordering) → o ≡ nat_cmp a.0 b.0 → ordering_then o (nat_cmp a.1 b.1) ≡ Equal → a ≡ b
    first Less s e' = absurd (cc e')
    first Equal s e' =
        let x : a.0 ≡ b.0 = ranked a.0 b.0 Equal s in
        let y = second (nat_cmp a.1 b.1) refl e' in
        pair_is a b x y
    first Greater s e' = absurd (cc e')

module _ {K : Type 0} (cmp : K → K → Ordering) (exact : (a b : K) → cmp a b ≡ Equal → a ≡ b) where
  in_go : (x k q : K) (xs : List K) (o : Ordering) → (Contains (insert_key cmp xs k) q → Contains xs q ⊎ (k ≡ q)) → Contains (match_ordering o (k ∷ x ∷ xs) (x ∷ xs) (x ∷ insert_key cmp xs k)) q → Contains (x ∷ xs) q ⊎ (k ≡ q)
  in_go x k q xs Less ih d = elim (member_cons k (x ∷ xs) q d) [ inl e ↦ inr e | inr z ↦ inl z ]
  in_go x k q xs Equal ih d = inl d
  in_go x k q xs Greater ih d =
      elim (member_cons x (insert_key cmp xs k) q d) [
        | inl e ↦ inl (subst (Contains (x ∷ xs)) e (member_head x xs))
        | inr z ↦ elim (ih z) [ inl y ↦ inl (member_tail x xs q y) | inr e ↦ inr e ]
      ]

  pub member_insert : (xs : List K) (k q : K) → Contains (insert_key cmp xs k) q → Contains xs q ⊎ (k ≡ q)
  member_insert [] k q c = elim (member_cons k [] q c) [ inl e ↦ inr e | inr z ↦ inl z ]
  member_insert (x ∷ xs) k q c = in_go x k q xs (cmp k x) (member_insert xs k q) c

  out_go : (x k q : K) (xs : List K) (o : Ordering) → (o ≡ Equal → k ≡ x) → ((Contains xs q ⊎ (k ≡ q)) → Contains (insert_key cmp xs k) q) → Contains (x ∷ xs) q ⊎ (k ≡ q) → Contains (match_ordering o (k ∷ x ∷ xs) (x ∷ xs) (x ∷ insert_key cmp xs k)) q
  out_go x k q xs Less same ih c = elim c [ inl z ↦ member_tail k (x ∷ xs) q z | inr e ↦ subst (Contains (k ∷ x ∷ xs)) e (member_head k (x ∷ xs)) ]
  out_go x k q xs Equal same ih c = elim c [ inl z ↦ z | inr e ↦ subst (Contains (x ∷ xs)) (sym (same refl) ∙ e) (member_head x xs) ]
  out_go x k q xs Greater same ih c =
      elim c [
        | inl z ↦ elim (member_cons x xs q z) [
          | inl e ↦ subst (Contains (x ∷ insert_key cmp xs k)) e (member_head x (insert_key cmp xs k))
          | inr y ↦ member_tail x (insert_key cmp xs k) q (ih (inl y))
        ]
        | inr e ↦ member_tail x (insert_key cmp xs k) q (ih (inr e))
      ]

  pub member_inserted : (xs : List K) (k q : K) → Contains xs q ⊎ (k ≡ q) → Contains (insert_key cmp xs k) q
  member_inserted [] k q c = elim c [ inl z ↦ absurd (no_member q z) | inr e ↦ subst (Contains (k ∷ [])) e (member_head k []) ]
  member_inserted (x ∷ xs) k q c = out_go x k q xs (cmp k x) (exact k x) (member_inserted xs k q) c

-- a turn that adds the vertex at i behind its lane
pub added_more : (lanes vs : List ℕ) (i : ℕ) (first now next : List (ℕ × ℕ)) → i < length vs → next ≡ insert_key pair_cmp now (get_or lanes (get_or vs i 0) 0, get_or vs i 0)
    → ((k : ℕ × ℕ) → Contains now k ↔ (Contains first k ⊎ (Contains (take i vs) k.1 × (k.0 ≡ get_or lanes k.1 0))))
    → (k : ℕ × ℕ) → Contains next k ↔ (Contains first k ⊎ (Contains (take (i + 1) vs) k.1 × (k.0 ≡ get_or lanes k.1 0)))
added_more lanes vs i first now next lt e old k = (
  λ c. elim (member_insert pair_cmp pair_equal now key k (subst (λ l. Contains l k) e c)) [
    | inl z ↦ elim ((old k).0 z) [ inl y ↦ inl y | inr y ↦ inr (subst (λ l. Contains l k.1) (sym more) (Contains-append_left (take i vs) (v ∷ []) k.1 y.0), y.1) ]
    | inr same ↦ inr (subst (λ l. Contains l k.1) (sym more) (Contains-append_right (take i vs) (v ∷ []) k.1 (subst (Contains (v ∷ [])) (ap (λ x. x.1) same) (member_head v []))), sym (ap (λ x. x.0) same) ∙ ap (λ x. get_or lanes x 0) (ap (λ x. x.1) same))
  ],
  λ c. subst (λ l. Contains l k) (sym e) (member_inserted pair_cmp pair_equal now key k (back c)),
)
  where
    v : ℕ
    v = get_or vs i 0

    key : ℕ × ℕ
    key = (get_or lanes (get_or vs i 0) 0, get_or vs i 0)

    more : take (i + 1) vs ≡ take i vs ++ get_or vs i 0 ∷ []
    more = rw add-one (take-suc vs i 0 lt)

    back : (Contains first k ⊎ (Contains (take (i + 1) vs) k.1 × (k.0 ≡ get_or lanes k.1 0))) → Contains now k ⊎ (key ≡ k)
    back (inl y) = inl ((old k).1 (inl y))
    back (inr y) =
        elim (Contains-append_cases (take i vs) (v ∷ []) k.1 (subst (λ l. Contains l k.1) more y.0)) [
          | inl early ↦ inl ((old k).1 (inr (early, y.1)))
          | inr late ↦ elim (member_cons v [] k.1 late) [
            | inr z ↦ absurd (no_member k.1 z)
            | inl e' ↦ inr (pair_is key k (ap (λ x. get_or lanes x 0) e' ∙ sym y.1) e')
          ]
        ]
