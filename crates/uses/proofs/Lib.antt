mod LineRunLemmas
