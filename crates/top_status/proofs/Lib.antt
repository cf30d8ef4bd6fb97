mod DeadFrom
