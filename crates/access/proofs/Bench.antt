-- The † rows of the bench table hold: each by computing the rules, so that every definition on the way is opened.
use mathlib.Core.Path.{refl}
use Rattle.ways.specs.Lru.{lru_after, lru_way}
use Rattle.ways.specs.Ways.{lowest, lookup_in, victim_in}
use Rattle.ways.specs.State.{same_tags, tags_above, first_number, state_number_in}
use Rattle.directory.specs.Steps.{after_use, with_line, after_fill, reset_keeping, after_control}
use Rattle.ranges.specs.Ranges.{ranges_in, ranges_of, read_only, any_bad}
use Rattle.words.specs.Bytes.{bytes_at, value_of, bytes_of}
use Rattle.memory.specs.Parity.{ones_of, dp_of, lane_bit, dp_at, with_dp, put, written, wrong_at, wrong_in}
use Rattle.carried.specs.Carried.{due, later, landed, in_line}
use Rattle.bus.specs.Bus.{size_limit, size_of, wanted_after, cycles_of, burst_order, burst, last_answer, after_cycles}
use Rattle.bus.specs.Record.{lanes_of, flags_of, read_record, write_record, words_of}
use Rattle.doubleword.specs.Doubleword.{doublewords_of, changed}
use Rattle.reading.specs.Reading.{read_hit, buffer_of, records_of, plain_miss, spoiled, fill_miss, read_miss, settled, read_done}
use Rattle.writing.specs.Writing.{write_through, hit_array, write_done}
use Rattle.refusal.specs.Refusal.{memory_number, lent_number, any_above, argument_number, value_number, in_order, any_refused, carried_number, ranges_number, states_number_in, carried_states_number_in}
use Rattle.access.specs.Access.{write_one, all_of, snooped_by, read_one, landed_after, read_each, read_number, write_number, read_all, write_all, read_call, write_call}
use Rattle.access.specs.Bench.{BenchTable}

pub bench_table : BenchTable
unfolding ranges_in ranges_of read_only any_bad due later landed in_line buffer_of records_of spoiled carried_number in_order any_refused carried_states_number_in snooped_by landed_after read_each lru_after lru_way lowest lookup_in victim_in same_tags tags_above first_number state_number_in after_use with_line after_fill reset_keeping after_control
    bytes_at value_of bytes_of ones_of dp_of lane_bit dp_at with_dp put written wrong_at wrong_in size_limit size_of wanted_after cycles_of burst_order burst
    last_answer after_cycles lanes_of flags_of read_record write_record words_of doublewords_of changed read_hit plain_miss fill_miss read_miss settled
    read_done write_through hit_array write_done memory_number lent_number any_above argument_number value_number ranges_number states_number_in read_one write_one
    all_of read_number write_number read_all write_all read_call write_call
bench_table =
    record {
      write_at_0 = refl;
      fill_from_4 = refl;
      two_at_3 = refl;
      two_at_1 = refl;
      two_at_0 = refl;
      byte_fill = refl;
      first_way = refl;
      second_way = refl;
      third_way = refl;
      fourth_way = refl;
      fifth_way = refl;
      sixth_way = refl;
      ken_first_only = refl;
      width_3_read = refl;
      width_3_written = refl;
    }
