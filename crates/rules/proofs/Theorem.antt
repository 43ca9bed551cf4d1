-- Every day is lawful, and every call by the rules keeps it so.
use Rattle.std.proofs.Common.{◌≡◌, ℕ, ◌<◌, ◌≤◌, Bool, true, false, cond, not, ◌&&◌, ltb, ◌⊎◌, List, [], ◌∷◌, Some, None, Option, sym, refl, ap, ◌∙◌, subst, inl, inr, arith}
use Rattle.std.proofs.lemmas.Bool.{or_parts, true≢false}
use Rattle.std.proofs.lemmas.Bool.Decides.{nat_tests}
use Rattle.std.specs.List.{AllByRecursion}
use Rattle.terms.specs.declared.message.OrderChange.{OrderChange}
use Rattle.terms.specs.declared.message.Quoted.{Quoted}
use Rattle.terms.specs.declared.refusal.Refusal.{Refusal}
use Rattle.terms.specs.declared.side.Side.TheVariants.{Buy}
use Rattle.queue.proofs.Inserts.{all_map}
use Rattle.orders.specs.declared.order.Found.{Found}
use Rattle.orders.specs.declared.order.Order.{Order}
use Rattle.price_range.specs.declared.band.Band.{Band}
use Rattle.rules.specs.Book.{Answers, Book, Phase, waiting, trading, halted, closed, band}
use Rattle.rules.specs.Calls.{Call, order, quote, renew, change, cancel, halt, resume, end, resting, Outcome, answered, Event}
use Rattle.rules.specs.Checks.{Check, found, first_of, checks, bad_lots, is_none, is_trading, is_halted, if_found, rises, improves, allows}
use Rattle.rules.specs.Keeps.{Explained, Keeps}
use Rattle.rules.specs.Laws.{Lawful, Fair, FairTrades, Inside, Uncrossed}
use Rattle.rules.specs.Ledger.{Entries, by_outcome, keeping, deals, opens, opens_renewal, posts, ledger}
use Rattle.rules.specs.Meeting.{can_meet}
use Rattle.rules.specs.Rules.{Ruled, Day, opened, called, after, history, event_of, rule, accepted, unless_refused, quoted, renewed, changed, cancelled}
use Rattle.rules.proofs.Agreement.{Agrees, ledger_of, Kept, kept_order, kept_quote, kept_change, kept_cancel, kept_step, kept_end}
use Rattle.rules.proofs.Entries.{at_zero}
use Rattle.rules.proofs.Explains.{Explains, explained_order, explained_quote, explained_renewal, explained_change, explained_cancel, explained_end}
use Rattle.rules.proofs.Reasons.{reasoned}

-- an accepted call passes each of its tests
pub passed : (cs : List Check) → first_of cs ≡ None → AllByRecursion (λ c. c.1 ≡ false) cs
passed [] h = tt
passed ((r, t) ∷ cs) h = go t h (passed cs)
  where
    go : (u : Bool) → cond u (Some r) (first_of cs) ≡ None → (first_of cs ≡ None → AllByRecursion (λ c. c.1 ≡ false) cs) → (u ≡ false) × AllByRecursion (λ c. c.1 ≡ false) cs
    go true e f = let z : ◌≡◌ {A = ℕ} 0 1 = cc in absurd (omega arith)
    go false e f = (refl, f e)

some_lots : (k : ℕ) → bad_lots k ≡ false → 0 < k
some_lots k h = grind (arith, nat_tests)

-- what was found, if something was
is_found : (o : Option Found) → is_none o ≡ false → (f : Found) × (o ≡ Some f)
is_found None h = absurd (true≢false h)
is_found (Some f) h = (f, refl)

-- while halted a price does not improve
may_meet : (p : Phase) (c : OrderChange) (k : ℕ) (f : Found) → not (allows p (change c k)) ≡ false → (is_halted p && rises c f) ≡ false → (is_trading p ≡ true) ⊎ (improves f.side f.order.price c.price ≡ false)
may_meet waiting c k f a h = absurd (true≢false a)
may_meet trading c k f a h = inl refl
may_meet halted c k f a h = inr (or_parts (improves f.side f.order.price c.price) (ltb f.order.lots c.lots) h).0
may_meet closed c k f a h = absurd (true≢false a)

-- a renewal is a quote
kept_renewal : (k : ℕ) (l : Entries) (b : Book) (q : Option Quoted) → b.quote ≡ q → Agrees l b → Kept (renew k) l b (renewed q b)
kept_renewal k l b None e a =
    let same : opens (renew k) (ledger_of b l) ≡ ledger_of b l = ap (λ u. opens_renewal u (ledger_of b l)) e in
    record { answers = (_, refl); same = same ∙ ap (λ i. ledger_of b i.entry) (sym same); agrees = subst (λ i. Agrees i.entry b) (sym same) a; fair = tt }
kept_renewal k l b (Some q) e a =
    let w = kept_quote q.entry l b a k in
    let x = quoted q.entry b in
    let same : opens (quote q.entry k) (ledger_of b l) ≡ opens (renew k) (ledger_of b l) = sym (ap (λ u. opens_renewal u (ledger_of b l)) e) in
    record {
      answers = w.answers;
      same = subst (λ i. keeping i (deals x.trades i.entry) ≡ ledger_of x.book (deals x.trades i.entry)) same w.same;
      agrees = subst (λ i. Agrees (deals x.trades i.entry) x.book) same w.agrees;
      fair = subst (λ i. FairTrades (i.range []) i.entry x.trades) same w.fair;
    }

-- every accepted call but the question
kept : (c : Call) (l : Entries) (b : Book) → first_of (checks c b) ≡ None → Agrees l b → Kept c l b (accepted c b) ⊎ (c ≡ resting)
kept (order s t e k) l b h a = inl (kept_order s t e k l b a)
kept (quote q k) l b h a = inl (kept_quote q l b a k)
kept (renew k) l b h a = inl (kept_renewal k l b b.quote refl a)
kept (change c k) l b h a =
    let p = passed (checks (change c k) b) h in
    let q = p.1.1.1 in
    let f = is_found (found b c.order) q.1.1.0 in
    inl
    (subst (λ o. Kept (change c k) l b (changed c o b)) (sym f.1)
    (kept_change c k l b f.0 f.1 (some_lots c.lots q.0) (may_meet b.phase c k f.0 p.0 (subst (λ o. (is_halted b.phase && if_found o (rises c)) ≡ false) f.1 q.1.1.1.1.0)) a))
kept (cancel c) l b h a =
    let f = is_found (found b c.order) (passed (checks (cancel c) b) h).1.1.0 in
    inl (subst (λ o. Kept (cancel c) l b (cancelled c o b)) (sym f.1) (kept_cancel c l b f.0 f.1 a))
kept halt l b h a = inl (kept_step halt halted l b refl refl a)
kept resume l b h a = inl (kept_step resume waiting l b refl refl a)
kept end l b h a = inl (kept_end l b a)
kept resting l b h a = inr refl

-- what holds of every day
pub record Standing (ρ : Answers) (h : List Event) (b : Book) : Type 0 where
  pub same : ledger ρ h ≡ ledger_of b (ledger ρ h).entry
  pub agrees : Agrees (ledger ρ h).entry b
  pub fair : Fair ρ h

standing_answered : {ρ : Answers} {h : List Event} {b : Book} (c : Call) (x : Ruled) → Kept c (ledger ρ h).entry b x → Standing ρ h b → Standing ρ (event_of c x ∷ h) x.book
standing_answered {ρ} {h} {b} c x k s = go x.outcome k.answers.1
  where
    l : Entries
    l = (ledger ρ h).entry

    kept_same : posts c x.trades (ledger ρ h) ≡ ledger_of x.book (posts c x.trades (ledger ρ h)).entry
    kept_same = subst (λ i. posts c x.trades i ≡ ledger_of x.book (posts c x.trades i).entry) (sym s.same) k.same

    kept_agrees : Agrees (posts c x.trades (ledger ρ h)).entry x.book
    kept_agrees = subst (λ i. Agrees (posts c x.trades i).entry x.book) (sym s.same) k.agrees

    kept_fair : FairTrades ((opens c (ledger ρ h)).range []) (opens c (ledger ρ h)).entry x.trades
    kept_fair = subst (λ i. FairTrades ((opens c i).range []) (opens c i).entry x.trades) (sym s.same) k.fair

    go : (o : Outcome) → o ≡ answered k.answers.0 → Standing ρ (record { call = c; outcome = o; trades = x.trades } ∷ h) x.book
    go o e = subst (λ i. Standing ρ (record { call = c; outcome = i; trades = x.trades } ∷ h) x.book) (sym e) (record { same = kept_same; agrees = kept_agrees; fair = (kept_fair, s.fair) })

standing_asked : {ρ : Answers} {h : List Event} {b : Book} (c : Call) → c ≡ resting → Standing ρ h b → Standing ρ (event_of c (accepted c b) ∷ h) (accepted c b).book
standing_asked {ρ} {h} {b} c e s =
    subst (λ i. Standing ρ (event_of i (accepted i b) ∷ h) (accepted i b).book) (sym e) (record { same = s.same; agrees = s.agrees; fair = (refl, s.fair) })

pub standing : {ρ : Answers} {h : List Event} {b : Book} → Day ρ h b → Standing ρ h b
standing (opened i m n x y z) =
    record {
      same = refl;
      agrees = record {
        coupled = record {
          conserved = λ j. omega (arith, at_zero 0 j);
          fresh = λ j g. refl;
          owns = tt;
          opps = tt;
          own_ordered = record { sorted = tt; numbers = tt; keys = tt; some = tt };
          opp_ordered = record { sorted = tt; numbers = tt; keys = tt; some = tt };
        };
        apart = tt;
        legs = tt;
      };
      fair = tt;
    }
standing {ρ} (called {h} {b} d c) = go (first_of (checks c b)) refl (standing d)
  where
    go : (o : Option Refusal) → first_of (checks c b) ≡ o → Standing ρ h b → Standing ρ (event_of c (unless_refused o b (accepted c b)) ∷ h) (unless_refused o b (accepted c b)).book
    go (Some r) e s = record { same = s.same; agrees = s.agrees; fair = (refl, s.fair) }
    go None e s = by (kept c (ledger ρ h).entry b e s.agrees)
      where
        by : Kept c (ledger ρ h).entry b (accepted c b) ⊎ (c ≡ resting) → Standing ρ (event_of c (accepted c b) ∷ h) (accepted c b).book
        by (inl k) = standing_answered c (accepted c b) k s
        by (inr k) = standing_asked c k s

-- what cannot meet has no price in common
no_price : (r : Option Band) (p : ℕ) (o s : Order) → Inside r p → can_meet r Buy o.price s.price ≡ false → p ≤ o.price → s.price ≤ p → ⊥
no_price None p o s i h x y = i
no_price (Some r) p o s i h x y =
    let low = i.0 in
    let high = i.1 in
    grind (arith, nat_tests)

pub lawful : {ρ : Answers} {h : List Event} {b : Book} → Day ρ h b → Lawful ρ h b
lawful {ρ} {h} {b} d =
    let s = standing d in
    record {
      conserved = λ m. omega (arith, s.agrees.coupled.conserved m, at_zero 0 m);
      fair = s.fair;
      uncrossed = subst (λ r. Uncrossed r b) (ap (λ l. l.range []) (sym s.same))
          (λ p i. all_map (λ o a. all_map (λ q x. no_price (band b) p o q i x) b.sells.elements a) b.buys.elements s.agrees.apart);
    }

-- every accepted call
explains : (c : Call) (l : Entries) (b : Book) → first_of (checks c b) ≡ None → Agrees l b → Explains c l b (accepted c b)
explains (order s t e k) l b h a = explained_order s t e k l b a
explains (quote q k) l b h a = explained_quote q k l b a
explains (renew k) l b h a = explained_renewal k l b b.quote refl a
explains (change c k) l b h a =
    let f = is_found (found b c.order) (passed (checks (change c k) b) h).1.1.1.1.1.0 in
    subst (λ o. Explains (change c k) l b (changed c o b)) (sym f.1) (explained_change c k l b f.0 f.1 a)
explains (cancel c) l b h a =
    let f = is_found (found b c.order) (passed (checks (cancel c) b) h).1.1.0 in
    subst (λ o. Explains (cancel c) l b (cancelled c o b)) (sym f.1) (explained_cancel c l b f.0 f.1 a)
explains halt l b h a = (record { traded = refl; counted = refl; resting = refl; cancelled = omega arith }, refl)
explains resume l b h a = (record { traded = refl; counted = refl; resting = refl; cancelled = omega arith }, refl)
explains end l b h a = explained_end l b a
explains resting l b h a = (refl, refl)

explained : {ρ : Answers} {h : List Event} {b : Book} (c : Call) → Day ρ h b → Explained (rule c b).outcome c (rule c b).trades (ledger ρ h).entry (ledger ρ (event_of c (rule c b) ∷ h)).entry b (rule c b).book
explained {ρ} {h} {b} c d = go (first_of (checks c b)) refl
  where
    s : Standing ρ h b
    s = standing d

    go : (o : Option Refusal) → first_of (checks c b) ≡ o → let x = unless_refused o b (accepted c b) in Explained x.outcome c x.trades (ledger ρ h).entry (ledger ρ (event_of c x ∷ h)).entry b x.book
    go (Some r) e = tt
    go None e =
        let x = accepted c b in
        subst (λ i. Explained x.outcome c x.trades (ledger ρ h).entry (by_outcome x.outcome (posts c x.trades i) i).entry b x.book) (sym s.same) (explains c (ledger ρ h).entry b e s.agrees)

pub keeps : (c : Call) (b : Book) → Keeps b (event_of c (rule c b)) (rule c b).book
keeps c b = record { day = λ ρ h d. called d c; lawful = λ ρ h d. lawful (called d c); reasoned = reasoned c b; explained = λ ρ h d. explained c d }

pub keeps_by : {b b' : Book} {e : Event} (c : Call) → e ≡ event_of c (rule c b) → b' ≡ (rule c b).book → Keeps b e b'
keeps_by {b} {b'} {e} c p q = subst (λ x. Keeps b x b') (sym p) (subst (λ y. Keeps b (event_of c (rule c b)) y) (sym q) (keeps c b))

-- a list of calls by the rules is a day that goes on
pub day_after : {ρ : Answers} (cs : List Call) (h : List Event) (b : Book) → Day ρ h b → Day ρ (history cs b h) (after cs b)
day_after [] h b d = d
day_after (c ∷ cs) h b d = day_after cs (event_of c (rule c b) ∷ h) (rule c b).book (called d c)
