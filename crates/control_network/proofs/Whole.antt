-- A network of two places or more: what each of its parts asks follows from what the parts before it did, and the whole
-- is what the definition says.
-- Assumes nothing.
use mathlib.Core.Path.{◌≡◌, sym, ap, ◌∙◌, subst}
use mathlib.Core.Bool.{Bool, true, false, true≢false}
use mathlib.Core.List.{List, [], ◌∷◌, ◌++◌}
use Prim.Native.Nat.{ℕ, ◌+◌, ◌-◌, ◌*◌, ◌/◌, ◌≤◌, ◌<◌}
use native.Mathlib.Omega.{arith}
use lib.ListN.{length, get_or, length-append, replicate}
use Rattle.counts.specs.Counts.{up, W, E}
use Rattle.network.specs.Wiring.{Side, Wiring, Lawful}
use Rattle.network.specs.Network.{network, down}
use Rattle.network.specs.Log.{Entry, entry, entry_words}
use Rattle.network.proofs.Shape.{sized}
use Rattle.permutation.specs.Permutations.{IsPermutation}
use Rattle.steps.specs.State.{State, Subnetwork, output_bit}
use Rattle.steps.specs.Steps.{step5, step6}
use Rattle.steps.specs.Sequence.{input_entries, entries_of}
use Rattle.steps.specs.Fold.{input_steps, set_net}
use Rattle.steps.proofs.Lengths.{E_parts, length-entries}
use Rattle.steps.proofs.Places.{Unlike, size_of, half_unlike, real, real⁻}
use Rattle.steps_canonical.specs.Table.{Holding, Ordered}
use Rattle.steps_canonical.proofs.Level.{Sets, order_in, half-order, half-apart, top_holding, bottom_holding, value_in}
use Rattle.steps_canonical.proofs.Whole.{net-sets}
use Rattle.wirings.specs.declared.Topology.{Topology}
use Rattle.wirings.specs.declared.Net.{Net}
use Rattle.wirings.specs.Nets.{wiring_of, place_of, side_of, IsHalf}
use Rattle.wirings.proofs.Halves.{lawful, half_inside, of_half}
use Rattle.control_sweeps.specs.Tables.{Below, Within, Covers}
use Rattle.control_sweeps.proofs.Places.{small, covers_kept}
use Rattle.control_walk.specs.declared.Walk.{Walk}
use Rattle.control_walk.specs.Walks.{state, lying, subnetwork_of, Went}
use Rattle.control_network.specs.Inner.{Room, Tidy, Lengthens, unmarked}
use Rattle.control_network.proofs.Bounds.{order_small, tidy_is, tidy5, tidy_input, tidy_net}
use Rattle.control_network.proofs.Trails.{unlike, halfway, half_fits}
use Rattle.control_network.proofs.Entries.{went_then, went_as, W_parts, entries_split, net_split}

-- a part with k pairs was done: its entries, its n bits, and what it made of the state, where none of j pairs is marked
pub record Done (es : List Entry) (n k : ℕ) (F : State → State) (w r : Walk) (vs ts bs l vs' ts' bs' l' : List ℕ) : Type 0 where
  pub went : Went es n w r l l'
  pub is : (j : ℕ) → k ≤ j → unmarked j vs' ts' bs' r ≡ F (unmarked j vs ts bs w)
  pub values_kept : length vs' ≡ length vs
  pub trails_kept : length ts' ≡ length ts
  pub bits_kept : length bs' ≡ length bs
  pub log_kept : length l' ≡ length l

-- all that comes before the halves
abbrev pub entering : Net → ℕ → State → State
entering net b s = step5 (wiring_of net.topology) (subnetwork_of net b) (input_steps (wiring_of net.topology) (subnetwork_of net b) s)

-- they were done; and a network was
abbrev pub Entered : Net → Walk → Walk → List ℕ → List ℕ → List ℕ → List ℕ → List ℕ → List ℕ → List ℕ → List ℕ → Type 0
Entered net w r vs ts bs l vs' ts' bs' l' =
    Done (input_entries net.start net.size w.b ++ (entry 5 net.start net.size w.b ∷ [])) (up net.size - 1)
    (up net.size)
    (entering net w.b) w r
    vs ts bs l vs' ts' bs' l'

abbrev pub Set : Topology → ℕ → (ℕ → ℕ) → Walk → Walk → List ℕ → List ℕ → List ℕ → List ℕ → List ℕ → List ℕ → List ℕ → List ℕ → Type 0
Set t n place w r vs ts bs l vs' ts' bs' l' =
    Done (entries_of (wiring_of t) (network n) place w.b) (W n) (up n) (set_net (wiring_of t) (network n) place w.b) w r vs ts bs l
    vs' ts' bs' l'

abbrev pub Halved : Net → Walk → Walk → List ℕ → List ℕ → List ℕ → List ℕ → List ℕ → List ℕ → List ℕ → List ℕ → Type 0
Halved half w r vs ts bs l vs' ts' bs' l' = Set half.topology half.size (place_of half) w r vs ts bs l vs' ts' bs' l'

module _ (net : Net) (w : Walk) (vs ts bs l : List ℕ) (two : 2 ≤ net.size) (R : Room net w vs ts bs l) where
  abbrev m : ℕ
  m = net.size

  abbrev wiring : Wiring
  wiring = wiring_of net.topology

  abbrev law : Lawful wiring
  law = lawful net.topology

  -- the places of a half, and what code says of its value said of them
  abbrev half : Bool → ℕ → ℕ
  half t = λ i. place_of net (side_of net (i, t))

  eparts : length (input_entries net.start m w.b) + (1 + (E (up m) + (E (down m) + 1))) ≡ E m
  eparts = E_parts net.start m w.b two

  wparts : (up m - 1) + (W (up m) + (W (down m) + down m)) ≡ W m
  wparts = W_parts m two

  front_length : length (input_entries net.start m w.b ++ (entry 5 net.start m w.b ∷ []))
      ≡ length (input_entries net.start m w.b) + 1
  front_length = length-append (input_entries net.start m w.b) (entry 5 net.start m w.b ∷ [])

  few : m ≤ 1024
  few = (small R.values_room two).0

  covers_half : {t : Bool} {half : Net} {xs : List ℕ} (ys : List ℕ) → IsHalf net t half → length ys ≡ length xs → Covers net xs → Covers
      half ys
  covers_half {t} {half} {xs} ys H e C =
      let C' : Covers half xs = record { inside = half_inside H C.inside; short = C.short } in
      covers_kept ys e C'

  module _ (T : Tidy (unmarked 512 vs ts bs w)) (S : Ordered (subnetwork_of net w.b) (unmarked 512 vs ts bs w))
      (L : Lengthens (place_of net) m ts)
      {x : Walk}
      {vs₁ ts₁ bs₁ l₁ : List ℕ}
      (D : Entered net w x vs ts bs l vs₁ ts₁ bs₁ l₁)
      {top : Net}
      (A : IsHalf net false top) where
    pub room_top : Room top x vs₁ ts₁ bs₁ l₁
    room_top =
        let n : top.size ≡ up m = A.size in
        record {
          values_room = covers_half vs₁ A D.values_kept R.values_room;
          trails_room = covers_half ts₁ A D.trails_kept R.trails_room;
          bits_room = rw n (omega (arith, R.bits_room, D.bits_kept, D.went.bit, wparts));
          few = rw n (omega (arith, R.few, D.went.bit, wparts));
          log_room = rw n (omega (arith, R.log_room, D.log_kept, D.went.count, front_length, eparts));
        }

    -- the state before the network's steps and after those before its halves, where none of 512 pairs is marked
    abbrev before : State
    before = unmarked 512 vs ts bs w

    abbrev N : Subnetwork
    N = subnetwork_of net w.b

    abbrev U : Unlike m (place_of net)
    U = unlike net R.values_room.inside.apart

    abbrev entered : State
    entered = entering net w.b before

    is₁ : unmarked 512 vs₁ ts₁ bs₁ x ≡ entered
    is₁ = D.is 512 (omega (arith, few))

    abbrev order : Bool → List ℕ
    order t = order_in law N U two S.order S.permutation before S.holding t

    permutation : (t : Bool) → IsPermutation (size_of m t) (order t)
    permutation t = half-order law N U two S.order S.permutation before S.holding t

    holding_top : Holding (lying (half false) (up m) (w.b + (up m - 1))) (order false) entered
    holding_top = top_holding law N U two S.order S.permutation before S.holding

    pub ordered_top : Ordered (subnetwork_of top x.b) (unmarked 512 vs₁ ts₁ bs₁ x)
    ordered_top =
        of_half A (λ t n place. Ordered (lying place n x.b) (unmarked 512 vs₁ ts₁ bs₁ x))
        (record {
          order = order false;
          permutation = permutation false;
          holding =
              subst (λ b. Holding (lying (half false) (up m) b) (order false) (unmarked 512 vs₁ ts₁ bs₁ x)) (sym D.went.bit)
              (subst (Holding (lying (half false) (up m) (w.b + (up m - 1))) (order false)) (sym is₁) holding_top);
        })

    tidy_entered : Tidy entered
    tidy_entered =
        tidy5 net.topology N few (input_steps wiring N before)
        (tidy_input net.topology N few before (order_small N S.order before few S.permutation S.holding) T)

    pub tidy_top : Tidy (unmarked 512 vs₁ ts₁ bs₁ x)
    tidy_top = tidy_is (sym is₁) tidy_entered

    halfway₁ : (i : ℕ) → i < m → (get_or ts₁ (place_of net i) 0 / 2 + 1) * (m - 1) ≤ 1023
    halfway₁ =
        rw (ap (λ (s : State). s.trails) is₁) (halfway net R.values_room.inside.apart w.b two before S R.trails_room.inside L)

    pub lengthens_top : Lengthens (place_of top) top.size ts₁
    unfolding Lengthens
    lengthens_top = of_half A (λ t n place. Lengthens place n ts₁) short
      where
        short : Lengthens (half false) (up m) ts₁
        short i h = half_fits m (get_or ts₁ (half false i) 0) (up m) two (omega arith)
            (halfway₁ (side_of net (i, false)) (real wiring law m false i h))

    module _ {y : Walk}
        {vs₂ ts₂ bs₂ l₂ : List ℕ}
        (D₂ : Set net.topology (up m) (half false) x y vs₁ ts₁ bs₁ l₁ vs₂ ts₂ bs₂ l₂)
        {bottom : Net}
        (B : IsHalf net true bottom) where
      count₂ : y.e ≡ x.e + E (up m)
      count₂ = omega (arith, D₂.went.count, length-entries wiring (sized (up m)) (half false) x.b)

      pub room_bottom : Room bottom y vs₂ ts₂ bs₂ l₂
      room_bottom =
          let n : bottom.size ≡ down m = B.size in
          record {
            values_room = covers_half vs₂ B (D₂.values_kept ∙ D.values_kept) R.values_room;
            trails_room = covers_half ts₂ B (D₂.trails_kept ∙ D.trails_kept) R.trails_room;
            bits_room = rw n (omega (arith, R.bits_room, D.bits_kept, D₂.bits_kept, D.went.bit, D₂.went.bit, wparts));
            few = rw n (omega (arith, R.few, D.went.bit, D₂.went.bit, wparts));
            log_room = rw n (omega (arith, R.log_room, D.log_kept, D₂.log_kept, D.went.count, count₂, front_length, eparts));
          }

      -- the top's steps, on the definition's state
      abbrev above : State
      above = set_net wiring (network (up m)) (half false) (w.b + (up m - 1)) entered

      is₂ : unmarked 512 vs₂ ts₂ bs₂ y ≡ above
      is₂ =
          D₂.is 512 (omega (arith, few))
          ∙ ap (λ b. set_net wiring (network (up m)) (half false) b (unmarked 512 vs₁ ts₁ bs₁ x)) D.went.bit
          ∙ ap (set_net wiring (network (up m)) (half false) (w.b + (up m - 1))) is₁

      sets_top : Sets wiring (network (up m)) (lying (half false) (up m) (w.b + (up m - 1))) (order false) entered above
      sets_top =
          net-sets law (half false) (w.b + (up m - 1)) (sized (up m)) (half_unlike wiring law m (place_of net) U false) (order false)
          (permutation false) entered holding_top

      bottom_bit : y.b ≡ w.b + ((up m - 1) + W (up m))
      bottom_bit = omega (arith, D.went.bit, D₂.went.bit)

      holding_bottom : Holding (lying (half true) (down m) (w.b + ((up m - 1) + W (up m)))) (order true) above
      holding_bottom = bottom_holding law N U two S.order S.permutation before S.holding (network (up m)) above sets_top

      pub ordered_bottom : Ordered (subnetwork_of bottom y.b) (unmarked 512 vs₂ ts₂ bs₂ y)
      ordered_bottom =
          of_half B (λ t n place. Ordered (lying place n y.b) (unmarked 512 vs₂ ts₂ bs₂ y))
          (record {
            order = order true;
            permutation = permutation true;
            holding =
                subst (λ b. Holding (lying (half true) (down m) b) (order true) (unmarked 512 vs₂ ts₂ bs₂ y)) (sym bottom_bit)
                (subst (Holding (lying (half true) (down m) (w.b + ((up m - 1) + W (up m)))) (order true)) (sym is₂) holding_bottom);
          })

      tidy_above : Tidy above
      tidy_above =
          tidy_net net.topology (half false) (w.b + (up m - 1)) (sized (up m)) (half_unlike wiring law m (place_of net) U false)
          (order false)
          (permutation false) entered holding_top (omega (arith, few)) tidy_entered

      pub tidy_bottom : Tidy (unmarked 512 vs₂ ts₂ bs₂ y)
      tidy_bottom = tidy_is (sym is₂) tidy_above

      pub lengthens_bottom : Lengthens (place_of bottom) bottom.size ts₂
      unfolding Lengthens
      lengthens_bottom = of_half B (λ t n place. Lengthens place n ts₂) short
        where
          short : Lengthens (half true) (down m) ts₂
          short i h =
              let off = half-apart law N U two S.order S.permutation before S.holding true false true≢false i h in
              let same : get_or ts₂ (half true i) 0 ≡ get_or ts₁ (half true i) 0 =
              ap (λ (s : State). get_or s.trails (half true i) 0) is₂ ∙ sets_top.framed.trails_off (half true i) off
              ∙ ap (λ (s : State). get_or s.trails (half true i) 0) (sym is₁) in
              rw same (half_fits m (get_or ts₁ (half true i) 0) (down m) two (omega arith)
              (halfway₁ (side_of net (i, true)) (real wiring law m true i h)))

      module _ {z : Walk}
          {vs₃ ts₃ bs₃ l₃ : List ℕ}
          (D₃ : Set net.topology (down m) (half true) y z vs₂ ts₂ bs₂ l₂ vs₃ ts₃ bs₃ l₃) where
        count₃ : z.e ≡ y.e + E (down m)
        count₃ = omega (arith, D₃.went.count, length-entries wiring (sized (down m)) (half true) y.b)

        -- the bottom's steps
        abbrev below : State
        below = set_net wiring (network (down m)) (half true) (w.b + ((up m - 1) + W (up m))) above

        is₃ : unmarked 512 vs₃ ts₃ bs₃ z ≡ below
        is₃ =
            D₃.is 512 (omega (arith, few))
            ∙ ap (λ b. set_net wiring (network (down m)) (half true) b (unmarked 512 vs₂ ts₂ bs₂ y)) bottom_bit
            ∙ ap (set_net wiring (network (down m)) (half true) (w.b + ((up m - 1) + W (up m)))) is₂

        sets_bottom : Sets wiring (network (down m)) (lying (half true) (down m) (w.b + ((up m - 1) + W (up m)))) (order true) above below
        sets_bottom =
            net-sets law (half true) (w.b + ((up m - 1) + W (up m))) (sized (down m)) (half_unlike wiring law m (place_of net) U true)
            (order true) (permutation true) above holding_bottom

        tidy₃ : Tidy (unmarked 512 vs₃ ts₃ bs₃ z)
        tidy₃ =
            tidy_is (sym is₃)
            (tidy_net net.topology (half true) (w.b + ((up m - 1) + W (up m))) (sized (down m))
            (half_unlike wiring law m (place_of net) U true) (order true)
            (permutation true) above holding_bottom (omega (arith, few)) tidy_above)

        -- each half is sorted: a value is below k
        value_at : (j : ℕ) (t : Bool) → j < size_of m t → get_or below.values (half t j) 0 ≡ j
        value_at =
            value_in law N U two S.order S.permutation before S.holding (network (up m)) above sets_top (network (down m)) below
            sets_bottom

        values₃ : Within (place_of net) m 32768 vs₃
        unfolding Within
        values₃ q h =
            let p : Side = wiring.dec (up m) q in
            let e : wiring.enc (up m) p ≡ q = law.enc_dec (up m) q (omega arith) in
            let lp : p.0 < up m = law.dec< (up m) q (omega arith) in
            let lies : p.0 < size_of m p.1 = real⁻ wiring law m p lp (rw e h) in
            rw (ap (λ (s : State). s.values) is₃)
            (subst (λ i. get_or below.values (place_of net i) 0 < 32768) e (rw (value_at p.0 p.1 lies) (omega (arith, few))))

        -- what step 6 asks
        pub asks_six : (2 ≤ m) × Covers net vs₃ × Covers net ts₃ × (z.b + down m ≤ length bs₃) × (entry_words * (z.e + 1) ≤ length l₃)
            × Below 2 bs₃ × Within (place_of net) m 32768 vs₃ × (w.b < 65536)
        asks_six = (
          two,
          covers_kept vs₃ (D₃.values_kept ∙ D₂.values_kept ∙ D.values_kept) R.values_room,
          covers_kept ts₃ (D₃.trails_kept ∙ D₂.trails_kept ∙ D.trails_kept) R.trails_room,
          omega (arith, R.bits_room, D.bits_kept, D₂.bits_kept, D₃.bits_kept, D.went.bit, D₂.went.bit, D₃.went.bit, wparts),
          omega (arith, R.log_room, D.log_kept, D₂.log_kept, D₃.log_kept, D.went.count, count₂, count₃, front_length, eparts),
          tidy₃.bits_below,
          values₃,
          omega (arith, R.few),
        )

        module _ {r : Walk}
            {vs₄ ts₄ bs₄ l₄ : List ℕ}
            (G : Went (entry 6 net.start m w.b ∷ []) (down m) z r l₃ l₄)
            (six : (ms : List ℕ) → z.b ≡ output_bit N → state vs₄ ts₄ ms bs₄ r ≡ step6 wiring N (state vs₃ ts₃ ms bs₃ z)) where
          pub whole_log : Went (entries_of wiring (network m) (place_of net) w.b) (W m) w r l l₄
          whole_log =
              went_as
              (entries_split wiring (place_of net) m net.start w.b x.b y.b (omega arith) two D.went.bit D₂.went.bit)
              wparts
              (went_then (omega (arith, R.log_room, front_length, eparts)) D.went
              (went_then (omega (
                arith,
                R.log_room,
                D.log_kept,
                D.went.count,
                front_length,
                eparts,
                length-entries wiring
                    (sized (up m)) (half false) x.b,
              )) D₂.went
              (went_then
              (omega (
                arith,
                R.log_room,
                D.log_kept,
                D₂.log_kept,
                D.went.count,
                count₂,
                front_length,
                eparts,
                length-entries wiring
                    (sized (down m)) (half true) y.b,
              ))
              D₃.went G)))

          pub whole_state : (j : ℕ) → up m ≤ j → unmarked j vs₄ ts₄ bs₄ r ≡ set_net wiring (network m) (place_of net) w.b
              (unmarked j vs ts bs w)
          whole_state j h =
              net_split wiring (place_of net) m w.b x.b y.b z.b (unmarked j vs ts bs w) (unmarked j vs₁ ts₁ bs₁ x)
              (unmarked j vs₂ ts₂ bs₂ y)
              (unmarked j vs₃ ts₃ bs₃ z) (unmarked j vs₄ ts₄ bs₄ r) two (D.is j h) D.went.bit (D₂.is j (omega arith)) D₂.went.bit
              (D₃.is j (omega arith)) D₃.went.bit (six (replicate j 0))
