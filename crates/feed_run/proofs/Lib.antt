mod ArrivingLemmas
mod FeedingLemmas
mod EndLemmas
