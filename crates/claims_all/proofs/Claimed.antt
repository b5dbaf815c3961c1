-- All that is claimed holds: each field by the theorem of its crate.
-- Assumes nothing.
use mathlib.Core.List.{List}
use Prim.Native.Nat.{ℕ}
use Rattle.counts.proofs.Formula.{W_formula}
use Rattle.canonical.proofs.Carrying.{carrying_canonical, canonical_obeys}
use Rattle.canonical.proofs.Carry.{canonical_order}
use Rattle.permutation.specs.Permutations.{IsPermutation}
use Rattle.records.proofs.Made.{made_true, permutation_made}
use Rattle.shuffle_fair.proofs.Fair.{fair}
use Rattle.shuffle_fair.proofs.Words.{used_words}
use Rattle.shuffle.proofs.Fair.{each_place}
use Rattle.shuffle.proofs.Accepted.{order_permutation as drawn-permutation}
use Rattle.wirings.specs.declared.Topology.{Topology}
use Rattle.wirings.proofs.Halves.{lawful}
use Rattle.orders_listed.proofs.OrderAt.{order_permutation}
use Rattle.orders_listed.proofs.Dictionary.{rising}
use Rattle.gauges.proofs.Floors.{floor_is, floor_only}
use Rattle.cmd_chart.proofs.Gauges.{gauges_held, gauges_rise}
use Rattle.cmd_chart.proofs.Mixed.{chart_moved, chart_moved_back}
use Rattle.cmd_list.proofs.Lines.{one_line_each}
use Rattle.claims.proofs.PublicCalls.{demand1}
use Rattle.claims.proofs.Demands.{demand3, paper-set, paper-mix, paper-return}
use Rattle.claims.proofs.Carrying.{demand2, sheets_read_back}
use Rattle.claims.proofs.Month.{month}
use Rattle.claims.proofs.Charts.{same_report}
use Rattle.claims.proofs.Ranks.{as_set, treated}
use Rattle.claims.proofs.Converting.{convert_converts}
use Rattle.claims.proofs.Positions.{from_the_middle}
use Rattle.claims_job.proofs.Job.{job}
use Rattle.claims_all.specs.Claimed.{CanonicalMeans, Chart, SmallOrders, Claimed}

canonical_means : (wiring : Topology) (n : ℕ) (order : List ℕ) → IsPermutation n order → CanonicalMeans wiring n order
canonical_means wiring n order O =
    record {
      carries = canonical_order (lawful wiring) n order O;
      obeys = canonical_obeys (lawful wiring) n order O;
      both = λ bits e B. carrying_canonical (lawful wiring) n order O bits B e;
    }

chart : Chart
chart =
    record {
      same_report = same_report;
      mean_rounded_down = floor_is;
      mean_only = λ sum more mean remainder F. floor_only F;
      same_chart_mixed = λ wiring. chart_moved (lawful wiring);
      same_chart_returned = λ wiring. chart_moved_back (lawful wiring);
      gauges_present = gauges_held;
      gauges_rise = gauges_rise;
    }

small_orders : SmallOrders
small_orders =
    record {
      are_orders = order_permutation;
      rising = rising;
      every_order_treated = treated;
      as_set = as_set;
      one_line_each = one_line_each;
    }

pub claimed : Claimed
claimed =
    record {
      demand1 = demand1;
      demand2 = demand2;
      canonical_means = canonical_means;
      sheets_read_back = sheets_read_back;
      demand3 = demand3;
      paper_calls = record { set_call = paper-set; mix_call = paper-mix; return_call = paper-return };
      switch_count = W_formula;
      month = month;
      job = job;
      chart = chart;
      carried_count = record { made_true = made_true; every_order = permutation_made };
      small_orders = small_orders;
      fair_drawing = record { each_remainder = fair; each_place = each_place; words_used = used_words; an_order = drawn-permutation };
      converter = convert_converts;
      from_the_middle = from_the_middle;
    }
